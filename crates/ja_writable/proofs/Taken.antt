-- Items that are taken one after the other, and what is said where one is refused.
use Rattle.std.proofs.Common.{◌≡◌, ℕ, zero, suc, ◌+◌, ◌<◌, ◌≤◌, ◌⊎◌, inl, inr, List, [], ◌∷◌, length, drop, slice_get, Some, Result, Err, sym, ap, ◌∙◌, subst, arith}
use Rattle.std.specs.Prelude.{⊤}
use Rattle.std.proofs.lemmas.Bool.{cases_lt}
use Rattle.ja_listing.specs.declared.fault.MakeFault.{MakeFault}
use Rattle.ja_listing.specs.declared.fault.MakeFault.TheVariants as faults
use Rattle.ja_listing.specs.declared.item.Head.{Head}
use Rattle.ja_listing.specs.declared.item.Item.{Item}
use Rattle.ja_listing.specs.Listed.{Listed}
use Rattle.ja_writable.specs.declared.flaw.Flaw.{Flaw}
use Rattle.ja_writable.specs.declared.flaw.Flaw.TheVariants.{Unwritable, Memory}
use Rattle.ja_writable.specs.declared.place.Place.{Place}
use Rattle.ja_writable.specs.declared.wants.Wants.{Wants}
use Rattle.ja_assembly.specs.Wanted.{head_keys, pool_strings, pool_keys}
use Rattle.ja_assembly.specs.Unwritable.{IsNoHead, IsNoItem, CannotBeWritten, head, item, too_much, IsWritable, IsFirstUnwritable, IsCause, Passes, Refuses}
use Rattle.ja_writable.specs.InnerJudging.{Judges, Takes, Asks, IsNoPlace, IsState, IsItem, IsStep, IsAsked, IsNoItemHere, IsFull, IsClean, IsAllowed, fault_of}
use Rattle.ja_writable.proofs.Checks.{last_takes, failed_takes}
use Rattle.ja_writable.proofs.Judged.{here_there, there_here, full_much, much_full, first_state, wants_step, has_its_code, place_step, next_clean, first_clean, all_clean, all_before, found}

-- ---- the item that begins a class

pub first_takes : (c : Listed) (h : Head) (items : List Item) (p : Place) (v w : Wants) (r : Result ⊤ Flaw) → c.head ≡ h → c.items ≡ items → IsNoPlace items p
    → v.keys.keys ≡ [] → w.strings.keys ≡ [] → Asks v.keys.keys w.keys.keys (head_keys h) → (IsNoHead h → ⊥) → Judges r (IsFull p w)
    → Takes r (CannotBeWritten c 0) ((CannotBeWritten c 0 → ⊥) × IsState c 0 p w)
first_takes c h items p v w r e f none no_keys no_strings asked fine full =
    let place : IsNoPlace c.items p = subst (λ (is : List Item). IsNoPlace is p) (sym f) none in
    let keys : Asks v.keys.keys w.keys.keys (head_keys c.head) = subst (λ (x : Head). Asks v.keys.keys w.keys.keys (head_keys x)) (sym e) asked in
    let state : IsState c 0 p w = first_state c p v w place no_keys no_strings keys in
    let good : IsNoHead c.head → ⊥ = λ n. fine (subst IsNoHead e n) in
    last_takes (IsFull p w) (CannotBeWritten c 0) ((CannotBeWritten c 0 → ⊥) × IsState c 0 p w) r full
    (λ x. too_much 0 (full_much c 0 p w state x))
    (λ x. (first_clean c good (λ m. x (much_full c 0 p w state m)), state))

pub first_refused : (c : Listed) (h : Head) (taken : Type 0) (r : Result ⊤ Flaw) (flaw : Flaw) → c.head ≡ h → r ≡ Err flaw → Judges (Err flaw) (IsNoHead h) → Takes r (CannotBeWritten c 0) taken
first_refused c h taken r flaw e f judged = failed_takes (IsNoHead h) (CannotBeWritten c 0) taken r flaw f judged (λ n. head (subst IsNoHead (sym e) n))

-- ---- an item behind it

module _ (c : Listed) (k : ℕ) (s : List ℕ) (i : Item) (behind : List Item) (p : Place) (v : Wants) (it : IsItem c k s i behind) (state : IsState c k p v) where
  pub next_refused : (taken : Type 0) (r : Result ⊤ Flaw) (flaw : Flaw) → r ≡ Err flaw → ((t : List ℕ) → Judges (Err flaw) (IsNoItemHere t p i behind)) → Takes r (CannotBeWritten c (k + 1)) taken
  next_refused taken r flaw e judged =
      failed_takes (IsNoItemHere c.head.superclass p i behind) (CannotBeWritten c (k + 1)) taken r flaw e (judged c.head.superclass)
      (λ n. item k i it.item_is (here_there c k i behind p state.place_is it.behind_is n))

  state_step : (q : Place) (w : Wants) → ((t : List ℕ) → IsNoItemHere t p i behind → ⊥) → ((t : List ℕ) → IsStep t i behind p q) → IsAsked s i v w → IsState c (k + 1) q w
  state_step q w fine step asked =
      record {
        place_is = place_step c k i behind p q it.item_is it.behind_is state.place_is (has_its_code c.head.superclass p i behind (fine c.head.superclass)) (step c.head.superclass);
        wants_are = wants_step c k i v w it.item_is state.wants_are (subst (λ (t : List ℕ). IsAsked t i v w) it.superclass_is asked);
      }

  pub next_takes : (q : Place) (w : Wants) (r : Result ⊤ Flaw) → ((t : List ℕ) → IsNoItemHere t p i behind → ⊥) → ((t : List ℕ) → IsStep t i behind p q) → IsAsked s i v w → Judges r (IsFull q w)
      → Takes r (CannotBeWritten c (k + 1)) ((CannotBeWritten c (k + 1) → ⊥) × IsState c (k + 1) q w)
  next_takes q w r fine step asked full =
      let next : IsState c (k + 1) q w = state_step q w fine step asked in
      let good : IsNoItem c k i → ⊥ = λ n. fine c.head.superclass (there_here c k i behind p state.place_is it.behind_is n) in
      last_takes (IsFull q w) (CannotBeWritten c (k + 1)) ((CannotBeWritten c (k + 1) → ⊥) × IsState c (k + 1) q w) r full
      (λ x. too_much (k + 1) (full_much c (k + 1) q w next x))
      (λ x. (next_clean c k i it.item_is good (λ m. x (much_full c (k + 1) q w next m)), next))

-- ---- where one is refused

pub first_cause : (c : Listed) (flaw : Flaw) (taken : Type 0) → Takes (Err flaw) (CannotBeWritten c 0) taken → IsCause c (fault_of flaw c.number)
first_cause c Unwritable taken h = found c 0 c.number (omega arith) h (λ j less wrong. absurd (omega (arith, less)))
first_cause c Memory taken h = tt

pub next_cause : (c : Listed) (k number : ℕ) (flaw : Flaw) (taken : Type 0) → IsClean c k → number ≡ c.number + k + 1 → Takes (Err flaw) (CannotBeWritten c (k + 1)) taken → IsCause c (fault_of flaw number)
next_cause c k number Unwritable taken clean e h = found c (k + 1) number (omega (arith, e)) h (λ j less wrong. clean j (omega (arith, less)) wrong)
next_cause c k number Memory taken clean e h = tt

-- ---- all items

tail_drop : {A : Type 0} (xs : List A) (k : ℕ) (x : A) (ys : List A) → drop k xs ≡ x ∷ ys → (slice_get xs k ≡ Some x) × (ys ≡ drop (suc k) xs)
tail_drop [] zero x ys h = cc
tail_drop [] (suc k) x ys h = cc
tail_drop (z ∷ xs) zero x ys h = let e : z ≡ x = cc in let f : xs ≡ ys = cc in (ap (λ u. Some u) e, sym f)
tail_drop (z ∷ xs) (suc k) x ys h = tail_drop xs k x ys h

pub item_here : (c : Listed) (k : ℕ) (s : List ℕ) (i : Item) (rest behind : List Item) → rest ≡ drop k c.items → rest ≡ i ∷ behind → s ≡ c.head.superclass → IsItem c k s i behind
item_here c k s i rest behind e f g =
    let parts = tail_drop c.items k i behind (sym e ∙ f) in
    let next : suc k ≡ k + 1 = omega arith in
    record { item_is = parts.0; behind_is = parts.1 ∙ ap (λ (n : ℕ). drop n c.items) next; superclass_is = g }

none_left : {A : Type 0} (xs : List A) (k : ℕ) → drop k xs ≡ [] → length xs ≤ k
none_left [] k h = omega arith
none_left (x ∷ xs) zero h = cc
none_left (x ∷ xs) (suc k) h = omega (arith, none_left xs k h)

pub all_allowed : (c : Listed) (k : ℕ) (rest : List Item) (p : Place) (w : Wants) → rest ≡ drop k c.items → rest ≡ [] → IsState c k p w → IsClean c k → IsAllowed c w
all_allowed c k rest p w e f state clean =
    let long : length c.items ≤ k = none_left c.items k (sym e ∙ f) in
    record {
      writable = all_clean c k long clean;
      strings_are = state.wants_are.strings_are ∙ ap pool_strings (all_before c k long);
      keys_are = state.wants_are.keys_are ∙ ap (pool_keys c.head) (all_before c k long);
    }

-- ---- the answer is the only one

-- there is one first item that cannot be written
one_first : (c : Listed) (m n : ℕ) → IsFirstUnwritable c m → IsFirstUnwritable c n → m ≡ n
one_first c m n a b = by (cases_lt a.k b.k) (cases_lt b.k a.k)
  where
    by : (a.k < b.k) ⊎ (b.k ≤ a.k) → (b.k < a.k) ⊎ (a.k ≤ b.k) → m ≡ n
    by (inl less) other = absurd (b.first a.k less a.unwritable)
    by (inr most) (inl less) = absurd (a.first b.k less b.unwritable)
    by (inr most) (inr least) = omega (arith, a.number_is, b.number_is, most, least)

pub writable_passes : {X : Type 0} (c : Listed) (r : Result X MakeFault) (fault : MakeFault) → r ≡ Err fault → IsCause c fault → IsWritable c → Passes r
writable_passes c r (faults.BadListing n) e h w = absurd (w h.k h.unwritable)
writable_passes c r faults.Memory e h w = subst Passes (sym e) tt

pub first_refuses : {X : Type 0} (c : Listed) (n : ℕ) (r : Result X MakeFault) (fault : MakeFault) → r ≡ Err fault → IsCause c fault → IsFirstUnwritable c n → Refuses n r
first_refuses c n r (faults.BadListing m) e h first = subst (Refuses n) (sym e) (one_first c m n h first)
first_refuses c n r faults.Memory e h first = subst (Refuses n) (sym e) tt

pub writable_not : (c : Listed) (n : ℕ) → IsWritable c → IsFirstUnwritable c n → ⊥
writable_not c n w first = w first.k first.unwritable

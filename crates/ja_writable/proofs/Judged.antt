-- What the judging of one item after the other says of all of them.
use Rattle.std.proofs.Common.{◌≡◌, ℕ, zero, suc, ◌+◌, ◌<◌, ◌≤◌, ◌⊎◌, inl, inr, Bool, true, false, List, [], ◌∷◌, ◌++◌, length, take, drop, slice_get, Option, Some, refl, sym, ap, ◌∙◌, subst, append_assoc, arith}
use mathlib.Core.Path.{fun_ext}
use Rattle.std.specs.Prelude.{bytes_eq, fold}
use Rattle.std.specs.List.{flat_map}
use Rattle.std.proofs.lemmas.List.{append-nil}
use Rattle.std.proofs.lemmas.Bool.{cases_lt}
use Rattle.std.proofs.lemmas.Grind.{flat_map-append, fold-append}
use Rattle.ja_listing.specs.declared.item.Item.{Item}
use Rattle.ja_listing.specs.declared.item.Item.TheVariants.{Field, Method, Initializer, Try, Instruction}
use Rattle.ja_listing.specs.Listed.{Listed}
use Rattle.ja_assembly.specs.declared.key.Key.{Key}
use Rattle.ja_writable.specs.declared.place.Place.{Place}
use Rattle.ja_writable.specs.declared.wants.Wants.{Wants}
use Rattle.ja_assembly.specs.Members.{expanded, instructions_in}
use Rattle.ja_assembly.specs.Wanted.{same_key, with_one, keys_in, keys_of, head_keys, item_keys, item_strings, strings_of, pool_strings, pool_keys}
use Rattle.ja_assembly.specs.Unwritable.{before, labels_at, pc_at, instructions_from, is_some_of, IsNoItemAt, IsNoItem, IsNoHead, IsTooMuch, CannotBeWritten, head, item, too_much, IsFirstUnwritable, IsWritable}
use Rattle.ja_assembly.specs.InnerLabels.{places}
use Rattle.ja_writable.specs.InnerJudging.{IsPlace, IsWants, IsState, IsStep, IsAsked, IsNoItemHere, IsFull, IsClean, IsNoPlace, Asks}
use Rattle.ja_assembly.proofs.Items.{before_step}
use Rattle.ja_writable.proofs.Steps.{field_step, try_step, instruction_step, method_step, initializer_step}

-- ---- the item itself

module _ (c : Listed) (k : ℕ) (i : Item) (behind : List Item) (p : Place) (h : IsPlace c k p) (e : behind ≡ drop (k + 1) c.items) where
  labels_same : places p.labels ≡ labels_at c k
  labels_same = fun_ext h.labels_are

  behind_same : is_some_of (instructions_in c.head.superclass behind) ≡ is_some_of (instructions_from c (k + 1))
  behind_same = ap (λ (items : List Item). is_some_of (instructions_in c.head.superclass items)) e

  pub here_there : IsNoItemHere c.head.superclass p i behind → IsNoItem c k i
  here_there n =
      subst (λ (code : Bool). IsNoItemAt code (labels_at c k) (pc_at c k) (is_some_of (instructions_from c (k + 1))) i) h.code_is
      (subst (λ (labels : List ℕ → Option ℕ). IsNoItemAt p.has_code labels (pc_at c k) (is_some_of (instructions_from c (k + 1))) i) labels_same
      (subst (λ (pc : ℕ). IsNoItemAt p.has_code (places p.labels) pc (is_some_of (instructions_from c (k + 1))) i) h.pc_is
      (subst (λ (some : Bool). IsNoItemAt p.has_code (places p.labels) p.pc some i) behind_same n)))

  pub there_here : IsNoItem c k i → IsNoItemHere c.head.superclass p i behind
  there_here n =
      subst (λ (some : Bool). IsNoItemAt p.has_code (places p.labels) p.pc some i) (sym behind_same)
      (subst (λ (pc : ℕ). IsNoItemAt p.has_code (places p.labels) pc (is_some_of (instructions_from c (k + 1))) i) (sym h.pc_is)
      (subst (λ (labels : List ℕ → Option ℕ). IsNoItemAt p.has_code labels (pc_at c k) (is_some_of (instructions_from c (k + 1))) i) (sym labels_same)
      (subst (λ (code : Bool). IsNoItemAt code (labels_at c k) (pc_at c k) (is_some_of (instructions_from c (k + 1))) i) (sym h.code_is) n)))

-- ---- the counts

pub full_much : (c : Listed) (k : ℕ) (p : Place) (w : Wants) → IsState c k p w → IsFull p w → IsTooMuch c.head (before c k)
full_much c k p w h (inl a) = inl (omega (arith, a, ap length h.wants_are.strings_are))
full_much c k p w h (inr (inl a)) = inr (inl (omega (arith, a, ap length h.wants_are.strings_are, ap length h.wants_are.keys_are)))
full_much c k p w h (inr (inr (inl a))) = inr (inr (inl (omega (arith, a, h.place_is.fields_are))))
full_much c k p w h (inr (inr (inr (inl a)))) = inr (inr (inr (inl (omega (arith, a, h.place_is.methods_are)))))
full_much c k p w h (inr (inr (inr (inr (inl a))))) = inr (inr (inr (inr (inl (omega (arith, a, h.place_is.ranges_are))))))
full_much c k p w h (inr (inr (inr (inr (inr a))))) = inr (inr (inr (inr (inr (omega (arith, a, h.place_is.pc_is))))))

pub much_full : (c : Listed) (k : ℕ) (p : Place) (w : Wants) → IsState c k p w → IsTooMuch c.head (before c k) → IsFull p w
much_full c k p w h (inl a) = inl (omega (arith, a, ap length h.wants_are.strings_are))
much_full c k p w h (inr (inl a)) = inr (inl (omega (arith, a, ap length h.wants_are.strings_are, ap length h.wants_are.keys_are)))
much_full c k p w h (inr (inr (inl a))) = inr (inr (inl (omega (arith, a, h.place_is.fields_are))))
much_full c k p w h (inr (inr (inr (inl a)))) = inr (inr (inr (inl (omega (arith, a, h.place_is.methods_are)))))
much_full c k p w h (inr (inr (inr (inr (inl a))))) = inr (inr (inr (inr (inl (omega (arith, a, h.place_is.ranges_are))))))
much_full c k p w h (inr (inr (inr (inr (inr a))))) = inr (inr (inr (inr (inr (omega (arith, a, h.place_is.pc_is))))))

-- ---- what is known, from one item to the next

strings_expanded : (superclass : List ℕ) (i : Item) → flat_map item_strings (expanded superclass i) ≡ item_strings i
strings_expanded superclass (Field flags name desc) = refl
strings_expanded superclass (Method flags name desc frame) = refl
strings_expanded superclass Initializer = refl
strings_expanded superclass (Try start end handler catch) = refl
strings_expanded superclass (Instruction label opcode operand) = append-nil (item_strings (Instruction label opcode operand))

pub wants_step : (c : Listed) (k : ℕ) (i : Item) (v w : Wants) → slice_get c.items k ≡ Some i → IsWants c k v → IsAsked c.head.superclass i v w → IsWants c (k + 1) w
wants_step c k i v w there h asked =
    let ys = expanded c.head.superclass i in
    record {
      strings_are =
          asked.strings_are ∙ ap (λ (old : List (List ℕ)). fold (with_one bytes_eq) old (item_strings i)) h.strings_are
          ∙ ap (λ (more : List (List ℕ)). fold (with_one bytes_eq) (pool_strings (before c k)) more) (sym (strings_expanded c.head.superclass i))
          ∙ sym (fold-append (with_one bytes_eq) [] (strings_of (before c k)) (strings_of ys))
          ∙ ap (λ (all : List (List ℕ)). fold (with_one bytes_eq) [] all) (sym (flat_map-append item_strings (before c k) ys))
          ∙ ap pool_strings (sym (before_step c k i there));
      keys_are =
          asked.keys_are ∙ ap (λ (old : List Key). fold (with_one same_key) old (keys_in ys)) h.keys_are
          ∙ sym (fold-append (with_one same_key) [] (keys_of c.head (before c k)) (keys_in ys))
          ∙ ap (λ (all : List Key). fold (with_one same_key) [] all) (append_assoc (head_keys c.head) (keys_in (before c k)) (keys_in ys))
          ∙ ap (λ (all : List Key). fold (with_one same_key) [] (head_keys c.head ++ all)) (sym (flat_map-append item_keys (before c k) ys))
          ∙ ap (pool_keys c.head) (sym (before_step c k i there));
    }

-- what is known before all items
pub first_state : (c : Listed) (p : Place) (v w : Wants) → IsNoPlace c.items p → v.keys.keys ≡ [] → w.strings.keys ≡ [] → Asks v.keys.keys w.keys.keys (head_keys c.head) → IsState c 0 p w
first_state c p v w none no_keys no_strings asked =
    record {
      place_is =
          record {
            fields_are = none.fields_are;
            methods_are = none.methods_are;
            ranges_are = none.ranges_are;
            pc_is = none.pc_is;
            code_is = none.code_is;
            labels_are = λ name. none.labels_are c.head.superclass name;
          };
      wants_are =
          record {
            strings_are = no_strings;
            keys_are =
                asked ∙ ap (λ (old : List Key). fold (with_one same_key) old (head_keys c.head)) no_keys
                ∙ ap (λ (all : List Key). fold (with_one same_key) [] all) (sym (append-nil (head_keys c.head)));
          };
    }

-- the item is of a method without code
abbrev pub NeedsCode : Item → Bool → Type 0
NeedsCode (Field flags name desc) code = Unit {0}
NeedsCode (Method flags name desc frame) code = Unit {0}
NeedsCode Initializer code = Unit {0}
NeedsCode (Try start end handler catch) code = code ≡ true
NeedsCode (Instruction label opcode operand) code = code ≡ true

not_false : (b : Bool) → (b ≡ false → ⊥) → b ≡ true
not_false true h = refl
not_false false h = absurd (h refl)

-- where an item can be written, its method has code if it needs code
pub has_its_code : (superclass : List ℕ) (p : Place) (i : Item) (behind : List Item) → (IsNoItemHere superclass p i behind → ⊥) → NeedsCode i p.has_code
has_its_code superclass p (Field flags name desc) behind h = tt
has_its_code superclass p (Method flags name desc frame) behind h = tt
has_its_code superclass p Initializer behind h = tt
has_its_code superclass p (Try start end handler catch) behind h = not_false p.has_code (λ e. h (inl e))
has_its_code superclass p (Instruction label opcode operand) behind h = not_false p.has_code (λ e. h (inl e))

pub place_step : (c : Listed) (k : ℕ) (i : Item) (behind : List Item) (p q : Place) → slice_get c.items k ≡ Some i → behind ≡ drop (k + 1) c.items → IsPlace c k p → NeedsCode i p.has_code
    → IsStep c.head.superclass i behind p q → IsPlace c (k + 1) q
place_step c k (Field flags name desc) behind p q there e h code s = field_step c k flags name desc p q there h s
place_step c k (Method flags name desc frame) behind p q there e h code s = method_step c k flags name desc frame behind p q there e h s
place_step c k Initializer behind p q there e h code s = initializer_step c k behind p q there e h s
place_step c k (Try start end handler catch) behind p q there e h code s = try_step c k start end handler catch p q there h code s
place_step c k (Instruction label opcode operand) behind p q there e h code s = instruction_step c k label opcode operand p q there h code s

-- ---- all items

-- why an item cannot be written
abbrev Causes : Listed → ℕ → Type 0
Causes c n =
    ((n ≡ 0) × IsNoHead c.head) ⊎ ((k : ℕ) × (i : Item) × (n ≡ k + 1) × (slice_get c.items k ≡ Some i) × IsNoItem c k i) ⊎ IsTooMuch c.head (before c n)

causes : (c : Listed) (n : ℕ) → CannotBeWritten c n → Causes c n
causes c n (head h) = inl (refl, h)
causes c n (item k i there h) = inr (inl (k, i, refl, there, h))
causes c n (too_much k h) = inr (inr h)

same_some : {A : Type 0} (a b : A) (o : Option A) → o ≡ Some a → o ≡ Some b → b ≡ a
same_some a b o e f = let g : Some b ≡ Some a = sym f ∙ e in cc

-- the next item can be written
pub next_clean : (c : Listed) (k : ℕ) (i : Item) → slice_get c.items k ≡ Some i → (IsNoItem c k i → ⊥) → (IsTooMuch c.head (before c (k + 1)) → ⊥) → CannotBeWritten c (k + 1) → ⊥
next_clean c k i there fine few wrong = by (causes c (k + 1) wrong)
  where
    by : Causes c (k + 1) → ⊥
    by (inl h) = let e : k + 1 ≡ 0 = h.0 in omega arith
    by (inr (inl h)) =
        let e : h.0 ≡ k = omega (arith, h.2) in
        let at : slice_get c.items k ≡ Some h.1 = subst (λ (n : ℕ). slice_get c.items n ≡ Some h.1) e h.3 in
        let none : IsNoItem c k h.1 = subst (λ (n : ℕ). IsNoItem c n h.1) e h.4 in
        fine (subst (λ (j : Item). IsNoItem c k j) (same_some i h.1 (slice_get c.items k) there at) none)
    by (inr (inr h)) = few h

-- the item that begins the class can be written
pub first_clean : (c : Listed) → (IsNoHead c.head → ⊥) → (IsTooMuch c.head (before c 0) → ⊥) → CannotBeWritten c 0 → ⊥
first_clean c fine few wrong = by (causes c 0 wrong)
  where
    by : Causes c 0 → ⊥
    by (inl h) = fine h.1
    by (inr (inl h)) = let e : 0 ≡ h.0 + 1 = h.2 in omega arith
    by (inr (inr h)) = few h

pub one_clean : (c : Listed) → (CannotBeWritten c 0 → ⊥) → IsClean c 0
one_clean c none j few wrong = none (subst (CannotBeWritten c) (omega (arith, few)) wrong)

pub more_clean : (c : Listed) (k : ℕ) → IsClean c k → (CannotBeWritten c (k + 1) → ⊥) → IsClean c (k + 1)
more_clean c k clean none j few wrong = by (cases_lt j (k + 1))
  where
    by : (j < k + 1) ⊎ (k + 1 ≤ j) → ⊥
    by (inl h) = clean j (omega (arith, h)) wrong
    by (inr h) = none (subst (CannotBeWritten c) (omega (arith, h, few)) wrong)

some_within : {A : Type 0} (xs : List A) (k : ℕ) (x : A) → slice_get xs k ≡ Some x → k < length xs
some_within [] k x h = cc
some_within (y ∷ xs) zero x h = omega arith
some_within (y ∷ xs) (suc k) x h = omega (arith, some_within xs k x h)

all_taken : {A : Type 0} (xs : List A) (j : ℕ) → length xs ≤ j → take j xs ≡ xs
all_taken [] zero h = refl
all_taken [] (suc j) h = refl
all_taken (x ∷ xs) zero h = absurd (omega arith)
all_taken (x ∷ xs) (suc j) h = ap (λ (ys : List _). x ∷ ys) (all_taken xs j (omega arith))

pub all_clean : (c : Listed) (k : ℕ) → length c.items ≤ k → IsClean c k → IsWritable c
all_clean c k long clean j wrong = by (cases_lt k j)
  where
    behind : k < j → Causes c j → ⊥
    behind more (inl h) = let e : j ≡ 0 = h.0 in omega (arith, more)
    behind more (inr (inl h)) = let e = some_within c.items h.0 h.1 h.3 in omega (arith, more, long, e, h.2)
    behind more (inr (inr h)) =
        let same : take j c.items ≡ take k c.items = all_taken c.items j (omega (arith, long, more)) ∙ sym (all_taken c.items k long) in
        let at : IsTooMuch c.head (before c k) = subst (λ (is : List Item). IsTooMuch c.head (flat_map (expanded c.head.superclass) is)) same h in
        clean k (omega arith) (too_much k at)

    by : (k < j) ⊎ (j ≤ k) → ⊥
    by (inl more) = behind more (causes c j wrong)
    by (inr few) = clean j few wrong

pub all_before : (c : Listed) (k : ℕ) → length c.items ≤ k → before c k ≡ flat_map (expanded c.head.superclass) c.items
all_before c k long = ap (flat_map (expanded c.head.superclass)) (all_taken c.items k long)

-- the first item that cannot be written
pub found : (c : Listed) (k number : ℕ) → number ≡ c.number + k → CannotBeWritten c k → ((j : ℕ) → j < k → CannotBeWritten c j → ⊥) → IsFirstUnwritable c number
found c k number e wrong first = record { k = k; number_is = e; unwritable = wrong; first = first }

-- Parts made of exact parts are exact.
use Rattle.std.proofs.Common.{◌≡◌, ℕ, zero, suc, ◌+◌, ◌<◌, ◌≤◌, ◌^◌, ◌⊎◌, inl, inr, Bool, true, false, List, [], ◌∷◌, ◌++◌, length, take, drop, get_or, refl, sym, ap, subst, ◌∙◌, arith, length-append}
use Rattle.std.specs.Prelude.{⊤}
use Rattle.std.specs.Int.{w16, w32, to_be_bytes, from_be_bytes}
use Rattle.std.proofs.lemmas.Bool.{cases_lt, false≢true}
use Rattle.std.proofs.lemmas.List.{append-nil, take-append-drop, length-take, take_at, drop_at}
use Rattle.std.proofs.lemmas.Nat.{be_bytes_2, be_bytes_4, from_be_bytes-to_be_bytes_2, from_be_bytes-to_be_bytes_4}
use Rattle.ja_bytes.specs.Reading.{Reading, Passes}
use Rattle.ja_pool.proofs.PayloadParts.{passes_both}
use Rattle.ja_attributes.specs.Part.{Part, value, here, left, check, at_end, field, u2, u4, rest, within, ◌>>=◌, times, fold, renamed, choose, AreBytes, IsExact}

-- ---- what is passed

-- a reader that passes some bytes goes forward
abbrev pub Forward : Reading → Reading → Type 0
Forward old new = (bytes : List ℕ) × Passes old new bytes

pub stays : (old : Reading) → Forward old old
stays old = ([], record { parts = refl; place = omega arith })

pub stays_at : (old new : Reading) → new ≡ old → Forward old new
stays_at old new e = subst (λ (r : Reading). Forward old r) (sym e) (stays old)

forward_both : (old mid new : Reading) → Forward old mid → Forward mid new → Forward old new
forward_both old mid new p q = (p.0 ++ q.0, passes_both old mid new p.0 q.0 p.1 q.1)

pub reading_is : (r s : Reading) → r.place ≡ s.place → r.rest ≡ s.rest → r ≡ s
reading_is r s p q = ap (λ (n : ℕ). record { place = n; rest = r.rest }) p ∙ ap (λ (t : List ℕ). record { place = s.place; rest = t }) q

-- the end of the bytes stays
pub same_total : (old new : Reading) → Forward old new → old.place + length old.rest ≡ new.place + length new.rest
same_total old new p = omega (arith, p.1.place, ap length p.1.parts, length-append p.0 new.rest)

-- a reader that passes no bytes stays
pub nothing_passed : (old new : Reading) → Passes old new [] → new ≡ old
nothing_passed old new p = reading_is new old (let e : new.place ≡ old.place = omega (arith, p.place) in e) (sym p.parts)

-- two readers that pass as many bytes
pub same_end : (old new other : Reading) (a b : List ℕ) → Passes old new a → Passes old other b → length a ≡ length b → (a ≡ b) × (new ≡ other)
same_end old new other a b p q e =
    let parts : a ++ new.rest ≡ b ++ other.rest = sym p.parts ∙ q.parts in
    let bytes : a ≡ b = sym (take_at a new.rest (length a) refl) ∙ ap (take (length a)) parts ∙ take_at b other.rest (length a) (sym e) in
    let left : new.rest ≡ other.rest = sym (drop_at a new.rest (length a) refl) ∙ ap (drop (length a)) parts ∙ drop_at b other.rest (length a) (sym e) in
    (bytes, reading_is new other (omega (arith, p.place, q.place, e)) left)

-- a field is there, or it is cut off
cut_off : (old new : Reading) (bytes : List ℕ) (len : ℕ) → Passes old new bytes → length bytes ≡ len → length old.rest < len → ⊥
cut_off old new bytes len p e short = omega (arith, ap length p.parts, length-append bytes new.rest, e, short)

abbrev behind : Reading → ℕ → Reading
behind old len = record { place = old.place + len; rest = drop len old.rest }

there : (old : Reading) (len : ℕ) → len ≤ length old.rest → (length (take len old.rest) ≡ len) × Passes old (behind old len) (take len old.rest)
there old len fits =
    let size : length (take len old.rest) ≡ len = omega (arith, length-take len old.rest, fits) in
    (size, record { parts = sym (take-append-drop len old.rest); place = omega (arith, size) })

-- ---- bytes

bytes_front : (a b : List ℕ) → AreBytes (a ++ b) → AreBytes a
bytes_front [] b h = tt
bytes_front (x ∷ a) b h = (h.0, bytes_front a b h.1)

bytes_back : (a b : List ℕ) → AreBytes (a ++ b) → AreBytes b
bytes_back [] b h = h
bytes_back (x ∷ a) b h = bytes_back a b h.1

pub bytes_passed : (old new : Reading) (bytes : List ℕ) → Passes old new bytes → AreBytes old.rest → AreBytes bytes
bytes_passed old new bytes p h = bytes_front bytes new.rest (subst AreBytes p.parts h)

pub bytes_left : (old new : Reading) → Forward old new → AreBytes old.rest → AreBytes new.rest
bytes_left old new p h = bytes_back p.0 new.rest (subst AreBytes p.1.parts h)

pub each_byte : (bytes : List ℕ) → AreBytes bytes → (i : ℕ) → get_or bytes i 0 < 256
each_byte [] h i = omega arith
each_byte (b ∷ bytes) h zero = h.0
each_byte (b ∷ bytes) h (suc i) = each_byte bytes h.1 i

-- ---- parts of no bytes

pub value_exact : {F A : Type 0} (a : A) → IsExact (value {F = F} a)
value_exact a = record {
  forward = λ old b new p. stays_at old new p.1;
  either = λ old bytes. inl (a, old, (refl, refl));
  not_both = λ old b new f p h. h;
  one_value = λ old b c new other p q. (p.0 ∙ sym q.0, p.1 ∙ sym q.1);
  one_fault = λ old f g p q. absurd p;
}

pub here_exact : {F : Type 0} → IsExact (here {F = F})
here_exact = record {
  forward = λ old b new p. stays_at old new p.1;
  either = λ old bytes. inl (old.place, old, (refl, refl));
  not_both = λ old b new f p h. h;
  one_value = λ old b c new other p q. (p.0 ∙ sym q.0, p.1 ∙ sym q.1);
  one_fault = λ old f g p q. absurd p;
}

pub left_exact : {F : Type 0} → IsExact (left {F = F})
left_exact = record {
  forward = λ old b new p. stays_at old new p.1;
  either = λ old bytes. inl (length old.rest, old, (refl, refl));
  not_both = λ old b new f p h. h;
  one_value = λ old b c new other p q. (p.0 ∙ sym q.0, p.1 ∙ sym q.1);
  one_fault = λ old f g p q. absurd p;
}

pub check_exact : {F : Type 0} (test : Bool) (wrong : F) → IsExact (check test wrong)
check_exact test wrong = record {
  forward = λ old b new p. stays_at old new p.1;
  either = λ old bytes. tested test wrong old;
  not_both = λ old b new f p h. false≢true (sym h.0 ∙ p.0);
  one_value = λ old b c new other p q. (refl, p.1 ∙ sym q.1);
  one_fault = λ old f g p q. p.1 ∙ sym q.1;
}
  where
    tested : {F : Type 0} (t : Bool) (w : F) (old : Reading) → ((u : ⊤) × (new : Reading) × (check t w).passes old u new) ⊎ ((f : F) × (check t w).fault old f)
    tested true w old = inl (tt, old, (refl, refl))
    tested false w old = inr (w, (refl, refl))

pub at_end_exact : {F : Type 0} (left : ℕ → F) → IsExact (at_end left)
at_end_exact left = record {
  forward = λ old b new p. stays_at old new p.1;
  either = λ old bytes. ended left old.place old.rest;
  not_both = λ old b new f p h. omega (arith, h.0, ap length p.0);
  one_value = λ old b c new other p q. (refl, p.1 ∙ sym q.1);
  one_fault = λ old f g p q. p.1 ∙ sym q.1;
}
  where
    ended : {F : Type 0} (l : ℕ → F) (at : ℕ) (bytes : List ℕ)
        → ((u : ⊤) × (new : Reading) × (at_end l).passes (record { place = at; rest = bytes }) u new) ⊎ ((f : F) × (at_end l).fault (record { place = at; rest = bytes }) f)
    ended l at [] = inl (tt, record { place = at; rest = [] }, (refl, refl))
    ended l at (b ∷ bytes) = inr (l at, (omega arith, refl))

-- ---- fields

pub field_exact : {F : Type 0} (end : ℕ → F) (len : ℕ) → IsExact (field end len)
field_exact end len = record {
  forward = λ old bytes new p. (bytes, p.1);
  either = λ old bytes. elim (cases_lt (length old.rest) len) [
    | inl short ↦ inr (end old.place, (short, refl))
    | inr fits ↦ inl (take len old.rest, behind old len, there old len fits)
  ];
  not_both = λ old bytes new f p h. cut_off old new bytes len p.1 p.0 h.0;
  one_value = λ old a b new other p q. same_end old new other a b p.1 q.1 (p.0 ∙ sym q.0);
  one_fault = λ old f g p q. p.1 ∙ sym q.1;
}

pub rest_exact : {F : Type 0} → IsExact (rest {F = F})
rest_exact = record {
  forward = λ old bytes new p. subst (λ (r : Reading). Forward old r) (sym p.1) (old.rest, record { parts = sym (append-nil old.rest); place = refl });
  either = λ old bytes. inl (old.rest, record { place = old.place + length old.rest; rest = [] }, (refl, refl));
  not_both = λ old b new f p h. h;
  one_value = λ old b c new other p q. (p.0 ∙ sym q.0, p.1 ∙ sym q.1);
  one_fault = λ old f g p q. absurd p;
}

number_2 : (a b : ℕ) (more : List ℕ) → AreBytes (a ∷ b ∷ more) → (from_be_bytes w16 (a ∷ b ∷ []) < 2 ^ 16) × (to_be_bytes w16 (from_be_bytes w16 (a ∷ b ∷ [])) ≡ a ∷ b ∷ [])
number_2 a b more h =
    (omega (arith, h.0, h.1.0), be_bytes_2 (a ∷ b ∷ []) (from_be_bytes w16 (a ∷ b ∷ [])) refl (each_byte (a ∷ b ∷ []) (h.0, (h.1.0, tt))) refl)

number_4 : (a b c d : ℕ) (more : List ℕ) → AreBytes (a ∷ b ∷ c ∷ d ∷ more)
    → (from_be_bytes w32 (a ∷ b ∷ c ∷ d ∷ []) < 2 ^ 32) × (to_be_bytes w32 (from_be_bytes w32 (a ∷ b ∷ c ∷ d ∷ [])) ≡ a ∷ b ∷ c ∷ d ∷ [])
number_4 a b c d more h =
    (omega (arith, h.0, h.1.0, h.1.1.0, h.1.1.1.0), be_bytes_4 (a ∷ b ∷ c ∷ d ∷ []) (from_be_bytes w32 (a ∷ b ∷ c ∷ d ∷ [])) refl (each_byte (a ∷ b ∷ c ∷ d ∷ []) (h.0, (h.1.0, (h.1.1.0, (h.1.1.1.0, tt))))) refl)

u2_either : {F : Type 0} (end : ℕ → F) (at : ℕ) (bytes : List ℕ) → AreBytes bytes
    → ((n : ℕ) × (new : Reading) × (u2 end).passes (record { place = at; rest = bytes }) n new) ⊎ ((f : F) × (u2 end).fault (record { place = at; rest = bytes }) f)
u2_either end at [] h = inr (end at, (omega arith, refl))
u2_either end at (a ∷ []) h = inr (end at, (omega arith, refl))
u2_either end at (a ∷ b ∷ more) h =
    let n = number_2 a b more h in
    inl (from_be_bytes w16 (a ∷ b ∷ []), record { place = at + 2; rest = more }, (n.0, record { parts = ap (λ (t : List ℕ). t ++ more) (sym n.1); place = refl }))

u4_either : {F : Type 0} (end : ℕ → F) (at : ℕ) (bytes : List ℕ) → AreBytes bytes
    → ((n : ℕ) × (new : Reading) × (u4 end).passes (record { place = at; rest = bytes }) n new) ⊎ ((f : F) × (u4 end).fault (record { place = at; rest = bytes }) f)
u4_either end at [] h = inr (end at, (omega arith, refl))
u4_either end at (a ∷ []) h = inr (end at, (omega arith, refl))
u4_either end at (a ∷ b ∷ []) h = inr (end at, (omega arith, refl))
u4_either end at (a ∷ b ∷ c ∷ []) h = inr (end at, (omega arith, refl))
u4_either end at (a ∷ b ∷ c ∷ d ∷ more) h =
    let n = number_4 a b c d more h in
    inl (from_be_bytes w32 (a ∷ b ∷ c ∷ d ∷ []), record { place = at + 4; rest = more }, (n.0, record { parts = ap (λ (t : List ℕ). t ++ more) (sym n.1); place = refl }))

pub same_u2 : (a b : ℕ) → a < 2 ^ 16 → b < 2 ^ 16 → to_be_bytes w16 a ≡ to_be_bytes w16 b → a ≡ b
same_u2 a b p q e = sym (from_be_bytes-to_be_bytes_2 a p) ∙ ap (from_be_bytes w16) e ∙ from_be_bytes-to_be_bytes_2 b q

pub same_u4 : (a b : ℕ) → a < 2 ^ 32 → b < 2 ^ 32 → to_be_bytes w32 a ≡ to_be_bytes w32 b → a ≡ b
same_u4 a b p q e = sym (from_be_bytes-to_be_bytes_4 a p) ∙ ap (from_be_bytes w32) e ∙ from_be_bytes-to_be_bytes_4 b q

pub u2_exact : {F : Type 0} (end : ℕ → F) → IsExact (u2 end)
u2_exact end = record {
  forward = λ old n new p. (to_be_bytes w16 n, p.1);
  either = λ old bytes. u2_either end old.place old.rest bytes;
  not_both = λ old n new f p h. cut_off old new (to_be_bytes w16 n) 2 p.1 refl h.0;
  one_value = λ old a b new other p q. let one = same_end old new other (to_be_bytes w16 a) (to_be_bytes w16 b) p.1 q.1 refl in (same_u2 a b p.0 q.0 one.0, one.1);
  one_fault = λ old f g p q. p.1 ∙ sym q.1;
}

pub u4_exact : {F : Type 0} (end : ℕ → F) → IsExact (u4 end)
u4_exact end = record {
  forward = λ old n new p. (to_be_bytes w32 n, p.1);
  either = λ old bytes. u4_either end old.place old.rest bytes;
  not_both = λ old n new f p h. cut_off old new (to_be_bytes w32 n) 4 p.1 refl h.0;
  one_value = λ old a b new other p q. let one = same_end old new other (to_be_bytes w32 a) (to_be_bytes w32 b) p.1 q.1 refl in (same_u4 a b p.0 q.0 one.0, one.1);
  one_fault = λ old f g p q. p.1 ∙ sym q.1;
}

-- ---- parts made of parts

module _ {F A : Type 0} (end : ℕ → F) (len : ℕ) (part : Part F A) (exact : IsExact part) where
  abbrev inside : Reading → List ℕ → Reading
  inside old bytes = record { place = old.place; rest = bytes }

  read_inside : (old new : Reading) (bytes : List ℕ) → length bytes ≡ len → Passes old new bytes
      → ((a : A) × (inner : Reading) × part.passes (inside old bytes) a inner) ⊎ ((f : F) × part.fault (inside old bytes) f)
      → ((a : A) × (new : Reading) × (within end len part).passes old a new) ⊎ ((f : F) × (within end len part).fault old f)
  read_inside old new bytes size p (inl r) = inl (r.0, new, (bytes, r.1, size, p, r.2))
  read_inside old new bytes size p (inr r) = inr (r.0, inr (bytes, new, size, p, r.1))

  same_field : (old new other : Reading) (a b : List ℕ) → length a ≡ len → length b ≡ len → Passes old new a → Passes old other b → (a ≡ b) × (new ≡ other)
  same_field old new other a b s t p q = same_end old new other a b p q (s ∙ sym t)

  within_not_both : (old : Reading) (a : A) (new : Reading) (f : F) → (within end len part).passes old a new → (within end len part).fault old f → ⊥
  within_not_both old a new f p (inl h) = cut_off old new p.0 len p.3 p.2 h.0
  within_not_both old a new f p (inr h) =
      let same = same_field old new h.1 p.0 h.0 p.2 h.2 p.3 h.3 in
      exact.not_both (inside old h.0) a p.1 f (subst (λ (t : List ℕ). part.passes (inside old t) a p.1) same.0 p.4) h.4

  within_one_value : (old : Reading) (a b : A) (new other : Reading) → (within end len part).passes old a new → (within end len part).passes old b other → (a ≡ b) × (new ≡ other)
  within_one_value old a b new other p q =
      let same = same_field old new other p.0 q.0 p.2 q.2 p.3 q.3 in
      ((exact.one_value (inside old q.0) a b p.1 q.1 (subst (λ (t : List ℕ). part.passes (inside old t) a p.1) same.0 p.4) q.4).0, same.1)

  within_one_fault : (old : Reading) (f g : F) → (within end len part).fault old f → (within end len part).fault old g → f ≡ g
  within_one_fault old f g (inl h) (inl k) = h.1 ∙ sym k.1
  within_one_fault old f g (inl h) (inr k) = absurd (cut_off old k.1 k.0 len k.3 k.2 h.0)
  within_one_fault old f g (inr h) (inl k) = absurd (cut_off old h.1 h.0 len h.3 h.2 k.0)
  within_one_fault old f g (inr h) (inr k) =
      let same = same_field old h.1 k.1 h.0 k.0 h.2 k.2 h.3 k.3 in
      exact.one_fault (inside old k.0) f g (subst (λ (t : List ℕ). part.fault (inside old t) f) same.0 h.4) k.4

  pub within_exact : IsExact (within end len part)
  within_exact = record {
    forward = λ old a new p. (p.0, p.3);
    either = λ old bytes. elim (cases_lt (length old.rest) len) [
      | inl short ↦ inr (end old.place, inl (short, refl))
      | inr fits ↦
          let field = there old len fits in
          read_inside old (behind old len) (take len old.rest) field.0 field.1
          (exact.either (inside old (take len old.rest)) (bytes_passed old (behind old len) (take len old.rest) field.1 bytes))
    ];
    not_both = within_not_both;
    one_value = within_one_value;
    one_fault = within_one_fault;
  }

module _ {F A B : Type 0} (first : Part F A) (second : A → Part F B) (exact : IsExact first) (each : (a : A) → IsExact (second a)) where
  abbrev Found : Reading → Type 0
  Found old = ((b : B) × (new : Reading) × (first >>= second).passes old b new) ⊎ ((f : F) × (first >>= second).fault old f)

  go_on : (old mid : Reading) (a : A) → first.passes old a mid → ((b : B) × (new : Reading) × (second a).passes mid b new) ⊎ ((f : F) × (second a).fault mid f) → Found old
  go_on old mid a p (inl r) = inl (r.0, r.1, (a, mid, p, r.2))
  go_on old mid a p (inr r) = inr (r.0, inr (a, mid, p, r.1))

  begin : (old : Reading) → AreBytes old.rest → ((a : A) × (new : Reading) × first.passes old a new) ⊎ ((f : F) × first.fault old f) → Found old
  begin old bytes (inl r) = go_on old r.1 r.0 r.2 ((each r.0).either r.1 (bytes_left old r.1 (exact.forward old r.0 r.1 r.2) bytes))
  begin old bytes (inr r) = inr (r.0, inl r.1)

  then_not_both : (old : Reading) (b : B) (new : Reading) (f : F) → (first >>= second).passes old b new → (first >>= second).fault old f → ⊥
  then_not_both old b new f p (inl h) = exact.not_both old p.0 p.1 f p.2 h
  then_not_both old b new f p (inr h) =
      let same = exact.one_value old p.0 h.0 p.1 h.1 p.2 h.2 in
      (each h.0).not_both h.1 b new f (subst (λ (a : A). (second a).passes h.1 b new) same.0 (subst (λ (r : Reading). (second p.0).passes r b new) same.1 p.3)) h.3

  then_one_value : (old : Reading) (b c : B) (new other : Reading) → (first >>= second).passes old b new → (first >>= second).passes old c other → (b ≡ c) × (new ≡ other)
  then_one_value old b c new other p q =
      let same = exact.one_value old p.0 q.0 p.1 q.1 p.2 q.2 in
      (each q.0).one_value q.1 b c new other (subst (λ (a : A). (second a).passes q.1 b new) same.0 (subst (λ (r : Reading). (second p.0).passes r b new) same.1 p.3)) q.3

  then_one_fault : (old : Reading) (f g : F) → (first >>= second).fault old f → (first >>= second).fault old g → f ≡ g
  then_one_fault old f g (inl h) (inl k) = exact.one_fault old f g h k
  then_one_fault old f g (inl h) (inr k) = absurd (exact.not_both old k.0 k.1 f k.2 h)
  then_one_fault old f g (inr h) (inl k) = absurd (exact.not_both old h.0 h.1 g h.2 k)
  then_one_fault old f g (inr h) (inr k) =
      let same = exact.one_value old h.0 k.0 h.1 k.1 h.2 k.2 in
      (each k.0).one_fault k.1 f g (subst (λ (a : A). (second a).fault k.1 f) same.0 (subst (λ (r : Reading). (second h.0).fault r f) same.1 h.3)) k.3

  pub then_exact : IsExact (first >>= second)
  then_exact = record {
    forward = λ old b new p. forward_both old p.1 new (exact.forward old p.0 p.1 p.2) ((each p.0).forward p.1 b new p.3);
    either = λ old bytes. begin old bytes (exact.either old bytes);
    not_both = then_not_both;
    one_value = then_one_value;
    one_fault = then_one_fault;
  }

pub choose_exact : {F A : Type 0} (test : Bool) (first second : Part F A) → IsExact first → IsExact second → IsExact (choose test first second)
choose_exact true first second p q = p
choose_exact false first second p q = q

pub times_exact : {F A : Type 0} (n : ℕ) (part : Part F A) → IsExact part → IsExact (times n part)
times_exact zero part p = value_exact []
times_exact {A} (suc n) part p =
    then_exact part (λ a. times n part >>= λ (others : List A). value (a ∷ others)) p
    (λ a. then_exact (times n part) (λ (others : List A). value (a ∷ others)) (times_exact n part p) (λ others. value_exact (a ∷ others)))

pub fold_exact : {F S : Type 0} (step : S → Part F S) → ((s : S) → IsExact (step s)) → (n : ℕ) (s : S) → IsExact (fold step n s)
fold_exact step each zero s = value_exact s
fold_exact step each (suc n) s = then_exact (step s) (fold step n) (each s) (fold_exact step each n)

pub renamed_exact : {E F A : Type 0} (name : E → F) (part : Part E A) → IsExact part → IsExact (renamed name part)
renamed_exact {E} {F} {A} name part p = record {
  forward = p.forward;
  either = λ old bytes. found old (p.either old bytes);
  not_both = λ old a new f q h. p.not_both old a new h.0 q h.1;
  one_value = p.one_value;
  one_fault = λ old f g h k. h.2 ∙ ap name (p.one_fault old h.0 k.0 h.1 k.1) ∙ sym k.2;
}
  where
    found : (old : Reading) → ((a : A) × (new : Reading) × part.passes old a new) ⊎ ((e : E) × part.fault old e)
        → ((a : A) × (new : Reading) × part.passes old a new) ⊎ ((f : F) × (renamed name part).fault old f)
    found old (inl r) = inl r
    found old (inr r) = inr (name r.0, (r.0, r.1, refl))

-- then_exact, where the parts can be seen
pub both : {F A B : Type 0} {first : Part F A} {second : A → Part F B} → IsExact first → ((a : A) → IsExact (second a)) → IsExact (first >>= second)
both {first} {second} exact each = then_exact first second exact each

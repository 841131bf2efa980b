-- Words and the assignments that they say: each assignment that is false outside a frame is said by a word, and the words after an assignment
-- are those that clauses allow.
use Rattle.std.proofs.Common.{◌≡◌, ◌⊎◌, inl, inr, ℕ, zero, suc, ◌+◌, ◌-◌, ◌*◌, ◌/◌, ◌%◌, ◌^◌, ◌<◌, ◌≤◌, Bool, true, false, List, [], ◌∷◌, ◌++◌, get_or, Some, None, refl, sym, ap, subst, ◌∙◌, arith}
use Rattle.std.specs.Prelude.{◌==◌, ◌&&◌, not, nat_lt, nat_eq, Contains, if◌then◌else◌}
use Rattle.std.specs.Int.{bit_at}
use Rattle.std.proofs.lemmas.Nat.Bits.{bit_at_lowest, bit_at-suc}
use Rattle.std.proofs.lemmas.Bool.{and_parts, and_from, false≢true, eqb-true, eq-eqb, ne_eqb, ltb-true, ltb-false, lt-ltb, le-ltb, cases_Bool}
use Rattle.std.proofs.lemmas.List.Elements.{Contains-append_left, Contains-append_right, Contains-append_cases}
use Rattle.ja_ir.specs.declared.method.Method.{Method}
use Rattle.ja_facts.specs.FactTables.{slot_count}
use Rattle.ja_facts.specs.Slots.{Slot, Local as InLocal, OnStack as InStack}
use Rattle.ja_facts.specs.Formulas.{Assignment}
use Rattle.ja_work.specs.declared.clause.Spot.{Spot}
use Rattle.ja_work.specs.declared.clause.Spot.TheVariants.{Local, OnStack, Dirt, Exc}
use Rattle.ja_work.specs.declared.clause.Clause.{Clause}
use Rattle.ja_work.specs.Clauses.{value, spot_of, fits, moved, never, AllFit}
use Rattle.ja_work.specs.Told.{number_of}
use Rattle.ja_work.proofs.Fitting.{moved_fits, fits_moved, constant_fits, fits_constant, value_spot}
use Rattle.ja_explicit.specs.declared.chance.Chance.{Chance}
use Rattle.ja_explicit.specs.InnerWords.{over, bit, bit_if, says, spot_at, chance, chances, passes, word_if, next_words}

-- the one item of a list
pub the_one : {A : Type 0} (x w : A) → Contains (x ∷ []) w → x ≡ w
the_one {A} x w h = first h.0 h.1 h.2
  where
    first : (i : ℕ) → i < 1 → get_or (x ∷ []) i w ≡ w → x ≡ w
    first zero lt e = e
    first (suc i) lt e = absurd (omega (arith, lt))

-- ---- a list of what each of so many numbers gives

module _ {A : Type 0} (f : ℕ → List A) where
  pub in_over : (from count k : ℕ) (x : A) → from ≤ k → k < from + count → Contains (f k) x → Contains (over f from count) x
  in_over from zero k x low high h = absurd (omega (arith, low, high))
  in_over from (suc count) k x low high h = elim (same_or_later from k low) [
    | inl e ↦ Contains-append_left (f from) (over f (suc from) count) x (subst (λ j. Contains (f j) x) (sym e) h)
    | inr lt ↦ Contains-append_right (f from) (over f (suc from) count) x (in_over (suc from) count k x lt (omega (arith, high)) h)
  ]
    where
      same_or_later : (a b : ℕ) → a ≤ b → (a ≡ b) ⊎ (suc a ≤ b)
      same_or_later a b le = elim (cases_Bool (nat_lt a b)) [
        | inl lt ↦ inr (let l = ltb-true a b lt in omega (arith, l))
        | inr ge ↦ inl (let g = ltb-false a b ge in omega (arith, g, le))
      ]

  pub from_over : (from count : ℕ) (x : A) → Contains (over f from count) x → (k : ℕ) × (from ≤ k) × (k < from + count) × Contains (f k) x
  from_over from zero x h = absurd (let lt = h.1 in omega (arith, lt))
  from_over from (suc count) x h = elim (Contains-append_cases (f from) (over f (suc from) count) x h) [
    | inl here ↦ (from, omega arith, omega arith, here)
    | inr later ↦ (let r = from_over (suc from) count x later in (r.0, (let low = r.1 in omega (arith, low)), (let high = r.2 in omega (arith, high)), r.3))
  ]

-- ---- bits

abbrev digit : Bool → ℕ
digit false = 0
digit true = 1

digit_low : (b : Bool) → digit b < 2
digit_low false = omega arith
digit_low true = omega arith

digit_is : (b : Bool) → (digit b == 1) ≡ b
digit_is false = refl
digit_is true = refl

-- the word whose first so many bits are these
abbrev pub word_of : (ℕ → Bool) → ℕ → ℕ
word_of g zero = 0
word_of g (suc n) = digit (g 0) + 2 * word_of (λ k. g (suc k)) n

pub word_small : (g : ℕ → Bool) (n : ℕ) → word_of g n < 2 ^ n
word_small g zero = omega arith
word_small g (suc n) = let h = word_small (λ k. g (suc k)) n in let d = digit_low (g 0) in omega (arith, h, d)

half : (d w : ℕ) → d < 2 → (d + 2 * w) / 2 ≡ w
half d w lt = omega (arith, lt)

rest_of : (d w : ℕ) → d < 2 → (d + 2 * w) % 2 ≡ d
rest_of d w lt = omega (arith, lt)

pub word_bit : (g : ℕ → Bool) (n k : ℕ) → k < n → bit (word_of g n) k ≡ g k
word_bit g zero k lt = absurd (omega (arith, lt))
word_bit g (suc n) zero lt =
    ap (λ d. d == 1) (bit_at_lowest (word_of g (suc n)) ∙ rest_of (digit (g 0)) (word_of (λ k. g (suc k)) n) (digit_low (g 0))) ∙ digit_is (g 0)
word_bit g (suc n) (suc k) lt =
    ap (λ d. d == 1) (bit_at-suc (word_of g (suc n)) k ∙ ap (λ w. bit_at w k) (half (digit (g 0)) (word_of (λ k. g (suc k)) n) (digit_low (g 0))))
    ∙ word_bit (λ k. g (suc k)) n k (omega (arith, lt))

-- ---- the spots of a frame

module _ (method : Method) where
  -- the spot is one of the frame
  abbrev pub is_inside : Spot → Bool
  is_inside (Local l) = nat_lt l method.locals
  is_inside (OnStack k) = nat_lt k method.stack
  is_inside Dirt = true
  is_inside Exc = true

  abbrev pub number : Spot → ℕ
  number (Local l) = l
  number (OnStack k) = method.locals + k
  number Dirt = method.locals + method.stack
  number Exc = method.locals + method.stack + 1

  pub number_low : (s : Spot) → is_inside s ≡ true → number s < slot_count method
  number_low (Local l) e = let lt = ltb-true l method.locals e in omega (arith, lt)
  number_low (OnStack k) e = let lt = ltb-true k method.stack e in omega (arith, lt)
  number_low Dirt e = omega arith
  number_low Exc e = omega arith

  -- how a choice by tests comes out
  first_of : {A : Type 0} (c : Bool) (x y : A) → c ≡ true → (if c then x else y) ≡ x
  first_of c x y e = ap (λ b. if b then x else y) e

  second_of : {A : Type 0} (c : Bool) (x y : A) → c ≡ false → (if c then x else y) ≡ y
  second_of c x y e = ap (λ b. if b then x else y) e

  past_locals : (n : ℕ) → method.locals ≤ n → spot_at method n ≡ (if nat_lt n (method.locals + method.stack) then OnStack (n - method.locals) else (if nat_eq n (method.locals + method.stack) then Dirt else Exc))
  past_locals n le =
      second_of (nat_lt n method.locals) (Local n) (if nat_lt n (method.locals + method.stack) then OnStack (n - method.locals) else (if nat_eq n (method.locals + method.stack) then Dirt else Exc))
      (le-ltb n method.locals le)

  past_values : (n : ℕ) → method.locals + method.stack ≤ n → spot_at method n ≡ (if nat_eq n (method.locals + method.stack) then Dirt else Exc)
  past_values n le =
      past_locals n (omega (arith, le))
      ∙ second_of (nat_lt n (method.locals + method.stack)) (OnStack (n - method.locals)) (if nat_eq n (method.locals + method.stack) then Dirt else Exc) (le-ltb n (method.locals + method.stack) le)

  pub spot_numbered : (s : Spot) → is_inside s ≡ true → spot_at method (number s) ≡ s
  spot_numbered (Local l) e =
      first_of (nat_lt l method.locals) (Local l) (if nat_lt l (method.locals + method.stack) then OnStack (l - method.locals) else (if nat_eq l (method.locals + method.stack) then Dirt else Exc)) e
  spot_numbered (OnStack k) e =
      let lt = ltb-true k method.stack e in
      let n : ℕ = method.locals + k in
      past_locals n (omega arith)
      ∙ first_of (nat_lt n (method.locals + method.stack)) (OnStack (n - method.locals)) (if nat_eq n (method.locals + method.stack) then Dirt else Exc) (lt-ltb n (method.locals + method.stack) (omega (arith, lt)))
      ∙ ap OnStack (omega arith)
  spot_numbered Dirt e = past_values (method.locals + method.stack) (omega arith) ∙ first_of (nat_eq (method.locals + method.stack) (method.locals + method.stack)) Dirt Exc (eq-eqb (method.locals + method.stack) (method.locals + method.stack) refl)
  spot_numbered Exc e =
      past_values (method.locals + method.stack + 1) (omega arith)
      ∙ second_of (nat_eq (method.locals + method.stack + 1) (method.locals + method.stack)) Dirt Exc (ne_eqb (method.locals + method.stack + 1) (method.locals + method.stack) (λ e. absurd (omega (arith, e))))

  pub value_inside : (w : ℕ) (s : Spot) → is_inside s ≡ true → value (says method w) s ≡ bit w (number s)
  value_inside w (Local l) e = ap (bit_if w) (first_of (nat_lt l method.locals) (Some l) None e)
  value_inside w (OnStack k) e = ap (bit_if w) (first_of (nat_lt k method.stack) (Some (method.locals + k)) None e)
  value_inside w Dirt e = refl
  value_inside w Exc e = refl

  pub none_outside : (z : Slot) → is_inside (spot_of z) ≡ false → number_of method z ≡ None
  none_outside (InLocal l) e = second_of (nat_lt l method.locals) (Some l) None e
  none_outside (InStack k) e = second_of (nat_lt k method.stack) (Some (method.locals + k)) None e

  pub value_outside : (w : ℕ) (s : Spot) → is_inside s ≡ false → value (says method w) s ≡ false
  value_outside w (Local l) e = ap (bit_if w) (none_outside (InLocal l) e)
  value_outside w (OnStack k) e = ap (bit_if w) (none_outside (InStack k) e)
  value_outside w Dirt e = absurd (false≢true (sym e))
  value_outside w Exc e = absurd (false≢true (sym e))

  pub value_numbered : (w k : ℕ) → k < slot_count method → value (says method w) (spot_at method k) ≡ bit w k
  value_numbered w k lt = elim (cases_Bool (nat_lt k method.locals)) [
    | inl local ↦
        ap (value (says method w)) (first_of (nat_lt k method.locals) (Local k) (if nat_lt k (method.locals + method.stack) then OnStack (k - method.locals) else (if nat_eq k (method.locals + method.stack) then Dirt else Exc)) local)
        ∙ value_inside w (Local k) local
    | inr past ↦ (let le = ltb-false k method.locals past in elim (cases_Bool (nat_lt k (method.locals + method.stack))) [
      | inl stacked ↦ (let high = ltb-true k (method.locals + method.stack) stacked in
          ap (value (says method w)) (past_locals k le ∙ first_of (nat_lt k (method.locals + method.stack)) (OnStack (k - method.locals)) (if nat_eq k (method.locals + method.stack) then Dirt else Exc) stacked)
          ∙ value_inside w (OnStack (k - method.locals)) (lt-ltb (k - method.locals) method.stack (omega (arith, high, le)))
          ∙ ap (bit w) (omega (arith, le)))
      | inr over ↦ (let above = ltb-false k (method.locals + method.stack) over in elim (cases_Bool (nat_eq k (method.locals + method.stack))) [
        | inl dirt ↦
            ap (value (says method w)) (past_values k above ∙ first_of (nat_eq k (method.locals + method.stack)) Dirt Exc dirt)
            ∙ ap (bit w) (sym (eqb-true k (method.locals + method.stack) dirt))
        | inr exc ↦
            ap (value (says method w)) (past_values k above ∙ second_of (nat_eq k (method.locals + method.stack)) Dirt Exc exc)
            ∙ ap (bit w) (last k above lt exc)
      ])
    ])
  ]
    where
      last : (k : ℕ) → method.locals + method.stack ≤ k → k < slot_count method → nat_eq k (method.locals + method.stack) ≡ false → method.locals + method.stack + 1 ≡ k
      last k above lt exc = elim (cases_Bool (nat_lt k (method.locals + method.stack + 1))) [
        | inl low ↦ (let l = ltb-true k (method.locals + method.stack + 1) low in let e : k ≡ method.locals + method.stack = omega (arith, l, above) in absurd (false≢true (sym exc ∙ eq-eqb k (method.locals + method.stack) e)))
        | inr high ↦ (let h = ltb-false k (method.locals + method.stack + 1) high in omega (arith, h, lt))
      ]

-- two assignments with the same truths are the same
pub same_assignment : (a b : Assignment) → ((s : Spot) → value a s ≡ value b s) → a ≡ b
same_assignment a b h = λ j. record { slot = λ z. same_slot z j; dirt = h Dirt j; exc = h Exc j }
  where
    same_slot : (z : Slot) → a.slot z ≡ b.slot z
    same_slot (InLocal l) = h (Local l)
    same_slot (InStack k) = h (OnStack k)

-- ---- the words after an assignment

module _ (to : Method) (clauses : Spot → Clause) (b : Assignment) where
  abbrev chance_of : ℕ → List Chance
  chance_of n = chance to clauses b n ∷ []

  chosen : (n : ℕ) (t : Bool) → (if t then (chance to clauses b n).high else (chance to clauses b n).low) ≡ fits (clauses (spot_at to n)) b t
  chosen n true = refl
  chosen n false = refl

  passes_each : (w n count k : ℕ) → passes (over chance_of n count) w n ≡ true → n ≤ k → k < n + count → fits (clauses (spot_at to k)) b (bit w k) ≡ true
  passes_each w n zero k h low high = absurd (omega (arith, low, high))
  passes_each w n (suc count) k h low high =
      let parts = and_parts (if bit w n then (chance to clauses b n).high else (chance to clauses b n).low) (passes (over chance_of (suc n) count) w (suc n)) h in
      elim (cases_Bool (nat_eq n k)) [
        | inl e ↦ subst (λ j. fits (clauses (spot_at to j)) b (bit w j) ≡ true) (eqb-true n k e) (sym (chosen n (bit w n)) ∙ parts.0)
        | inr ne ↦ passes_each w (suc n) count k parts.1 (later n k low ne) (omega (arith, high))
      ]
    where
      later : (a c : ℕ) → a ≤ c → nat_eq a c ≡ false → suc a ≤ c
      later a c le ne = elim (cases_Bool (nat_lt a c)) [
        | inl lt ↦ (let l = ltb-true a c lt in omega (arith, l))
        | inr ge ↦ (let g = ltb-false a c ge in let e : a ≡ c = omega (arith, g, le) in absurd (false≢true (sym ne ∙ eq-eqb a c e)))
      ]

  each_passes : (w n count : ℕ) → ((k : ℕ) → n ≤ k → k < n + count → fits (clauses (spot_at to k)) b (bit w k) ≡ true) → passes (over chance_of n count) w n ≡ true
  each_passes w n zero h = refl
  each_passes w n (suc count) h =
      and_from (if bit w n then (chance to clauses b n).high else (chance to clauses b n).low) (passes (over chance_of (suc n) count) w (suc n))
      (chosen n (bit w n) ∙ h n (omega arith) (omega arith)) (each_passes w (suc n) count (λ k low high. h k (omega (arith, low)) (omega (arith, high))))

  pub word_fits : (w : ℕ) → Contains (next_words to clauses b) w → (w < 2 ^ slot_count to) × ((k : ℕ) → k < slot_count to → fits (clauses (spot_at to k)) b (bit w k) ≡ true)
  word_fits w h =
      let r = from_over (word_if (chances to clauses b)) 0 (2 ^ slot_count to) w h in
      let p = in_if (passes (chances to clauses b) r.0 0) r.0 w r.3 in
      let high = r.2 in
      (subst (λ x. x < 2 ^ slot_count to) p.1 (omega (arith, high)), λ k lt. passes_each w 0 (slot_count to) k (subst (λ x. passes (chances to clauses b) x 0 ≡ true) p.1 p.0) (omega arith) (omega (arith, lt)))
    where
      in_if : (c : Bool) (x w : ℕ) → Contains (if c then x ∷ [] else []) w → (c ≡ true) × (x ≡ w)
      in_if true x w h = (refl, the_one x w h)
      in_if false x w h = absurd (let lt = h.1 in omega (arith, lt))

  pub fits_word : (w : ℕ) → w < 2 ^ slot_count to → ((k : ℕ) → k < slot_count to → fits (clauses (spot_at to k)) b (bit w k) ≡ true) → Contains (next_words to clauses b) w
  fits_word w small h =
      in_over (word_if (chances to clauses b)) 0 (2 ^ slot_count to) w w (omega arith) (omega (arith, small))
      (subst (λ c. Contains (if c then w ∷ [] else []) w) (sym (each_passes w 0 (slot_count to) (λ k low high. h k (omega (arith, high))))) (0, omega arith, refl))

  -- outside the frame clauses make nothing true
  abbrev pub IsQuiet : Type 0
  IsQuiet = (s : Spot) → is_inside to s ≡ false → (fits (clauses s) b false ≡ true) × (fits (clauses s) b true ≡ false)

  pub word_all : IsQuiet → (w : ℕ) → Contains (next_words to clauses b) w → AllFit clauses b (says to w)
  word_all quiet w h s = elim (cases_Bool (is_inside to s)) [
    | inl inside ↦
        subst (λ z. fits (clauses s) b z ≡ true) (sym (value_inside to w s inside))
        (subst (λ z. fits (clauses z) b (bit w (number to s)) ≡ true) (spot_numbered to s inside) ((word_fits w h).1 (number to s) (number_low to s inside)))
    | inr outside ↦ subst (λ z. fits (clauses s) b z ≡ true) (sym (value_outside to w s outside)) ((quiet s outside).0)
  ]

  pub all_word : (w : ℕ) → w < 2 ^ slot_count to → AllFit clauses b (says to w) → Contains (next_words to clauses b) w
  all_word w small h = fits_word w small (λ k lt. subst (λ z. fits (clauses (spot_at to k)) b z ≡ true) (value_numbered to w k lt) (h (spot_at to k)))

  -- what clauses allow is said by one of the words
  pub some_word : IsQuiet → (after : Assignment) → AllFit clauses b after → (w : ℕ) × Contains (next_words to clauses b) w × (says to w ≡ after)
  some_word quiet after h = (w, all_word w (word_small truth (slot_count to)) (subst (AllFit clauses b) (sym same) h), same)
    where
      truth : ℕ → Bool
      truth n = value after (spot_at to n)

      w : ℕ
      w = word_of truth (slot_count to)

      same : says to w ≡ after
      same = same_assignment (says to w) after (λ s. elim (cases_Bool (is_inside to s)) [
        | inl inside ↦ value_inside to w s inside ∙ word_bit truth (slot_count to) (number to s) (number_low to s inside) ∙ ap (value after) (spot_numbered to s inside)
        | inr outside ↦ value_outside to w s outside ∙ sym (is_false s outside (value after s) (h s))
      ])
        where
          is_false : (s : Spot) → is_inside to s ≡ false → (t : Bool) → fits (clauses s) b t ≡ true → t ≡ false
          is_false s outside true f = absurd (false≢true (sym ((quiet s outside).1) ∙ f))
          is_false s outside false f = refl

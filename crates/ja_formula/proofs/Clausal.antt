-- A clause, by what is gathered of its variables.
use Rattle.std.proofs.Common.{◌≡◌, ℕ, zero, suc, ◌+◌, ◌<◌, ◌≤◌, Bool, true, false, List, [], ◌++◌, Some, None, refl, sym, ap, ◌∙◌, arith, inl}
use Rattle.std.specs.Prelude.{◌||◌, ◌&&◌, not, Option}
use Rattle.std.proofs.lemmas.Bool.{lt-ltb}
use Rattle.ja_node_core.specs.Tree.{Assignment as Variables}
use Rattle.ja_bdd.specs.Functions.{Function, either}
use Rattle.ja_facts.specs.Slots.{OnStack as InStack}
use Rattle.ja_facts.specs.Formulas.{any_below, any_stacked}
use Rattle.ja_work.specs.declared.clause.Clause.{Clause}
use Rattle.ja_work.specs.declared.clause.Spot.{Spot}
use Rattle.ja_work.specs.declared.clause.Spot.TheVariants.{Local, OnStack, Dirt, Exc}
use Rattle.ja_work.specs.declared.frame.Frame.{Frame}
use Rattle.ja_work.specs.Clauses.{value, value_if, fits_as}
use Rattle.ja_work.specs.Frames.{variable, is_inside, read, clause_function}
use Rattle.ja_work.specs.Work.{literal, any_of, gathered, tied_by, stack_variables, variables_if, variables_of, tail, tied}
use Rattle.ja_formula.specs.Made.{IsClausePart, one_literal, one_piece}
use Rattle.ja_formula.specs.Inner.{LooksWithin, IsTail, one_of_clause, last_of_clause}

or_same : (p q r : Bool) → ((p || q) || r) ≡ (p || (q || r))
or_same true q r = refl
or_same false q r = refl

or_none : (p : Bool) → p ≡ (p || false)
or_none true = refl
or_none false = refl

-- one of the first so many is the first, or one of the others
any_first : (test : ℕ → Bool) (n : ℕ) → any_below test (suc n) ≡ (test zero || any_below (λ k. test (suc k)) n)
any_first test zero = or_none (test zero)
any_first test (suc n) = ap (λ p. p || test (suc n)) (any_first test n) ∙ or_same (test zero) (any_below (λ k. test (suc k)) n) (test (suc n))

-- what is at present of a spot of the frame
at_present : (frame : Frame) (a : Variables) (s : Spot) → is_inside frame s ≡ true → a (variable frame s 1) ≡ value (read frame 1 a) s
at_present frame a (Local l) e = ap (λ c. c && a (variable frame (Local l) 1)) (sym e)
at_present frame a (OnStack k) e = ap (λ c. c && a (variable frame (OnStack k) 1)) (sym e)
at_present frame a Dirt e = refl
at_present frame a Exc e = refl

stack_any : (frame : Frame) (a : Variables) (first count : ℕ) → first + count ≤ frame.stack → any_of (stack_variables frame first count) a ≡ any_stacked (read frame 1 a) first count
stack_any frame a first zero le = refl
stack_any frame a first (suc n) le =
    let b = read frame 1 a in
    let here : first + zero ≡ first = omega arith in
    let up : (k : ℕ) → suc first + k ≡ first + suc k = λ k. omega arith in
    let lt : first < frame.stack = omega arith in
    ap (λ p. p || any_of (stack_variables frame (suc first) n) a) (at_present frame a (OnStack first) (lt-ltb first frame.stack lt))
    ∙ ap (λ p. value b (OnStack first) || p) (stack_any frame a (suc first) n (omega arith))
    ∙ ap (λ (test : ℕ → Bool). value b (OnStack first) || any_below test n) (λ i k. b.slot (InStack (up k i)))
    ∙ ap (λ m. b.slot (InStack m) || any_below (λ k. b.slot (InStack (first + suc k))) n) (sym here)
    ∙ sym (any_first (λ k. b.slot (InStack (first + k))) n)

one_any : (frame : Frame) (a : Variables) (o : Option Spot) (vs : List ℕ) → ((s : Spot) → o ≡ Some s → is_inside frame s ≡ true) → any_of (variables_if frame o ++ vs) a ≡ (value_if (read frame 1 a) o || any_of vs a)
one_any frame a None vs inside = refl
one_any frame a (Some s) vs inside = ap (λ p. p || any_of vs a) (at_present frame a s (inside s refl))

-- some variable that the clause looks at is true
pub clause_any : (frame : Frame) (clause : Clause) (a : Variables) → LooksWithin frame clause
    → any_of (variables_of frame clause) a ≡ (value_if (read frame 1 a) clause.one || any_stacked (read frame 1 a) clause.first clause.count)
clause_any frame clause a within =
    one_any frame a clause.one (stack_variables frame clause.first clause.count) within.one
    ∙ ap (λ p. value_if (read frame 1 a) clause.one || p) (stack_any frame a clause.first clause.count within.stacked)

exact_value : (x y : Bool) → ((y && x) || (not y && not x)) ≡ fits_as true (false || x) y
exact_value true true = refl
exact_value true false = refl
exact_value false true = refl
exact_value false false = refl

at_most_value : (x y : Bool) → (not y || x) ≡ fits_as false (false || x) y
at_most_value true true = refl
at_most_value true false = refl
at_most_value false true = refl
at_most_value false false = refl

module _ (frame : Frame) (clause : Clause) (s : Spot) (within : LooksWithin frame clause) where
  -- a clause that is exact, or one that says at most, and no constant
  pub exact_clause : clause.exact ≡ true → clause.always ≡ false
      → either (tied_by true (literal (variable frame s 2) true) (gathered true (variables_of frame clause))) (tied_by true (literal (variable frame s 2) false) (gathered false (variables_of frame clause))) ≡ clause_function frame clause s
  exact_clause exact always = λ i a. at a i
    where
      at : (a : Variables) → ((a (variable frame s 2) && any_of (variables_of frame clause) a) || (not (a (variable frame s 2)) && not (any_of (variables_of frame clause) a))) ≡ clause_function frame clause s a
      at a =
          let y = a (variable frame s 2) in
          let x = value_if (read frame 1 a) clause.one || any_stacked (read frame 1 a) clause.first clause.count in
          ap (λ p. (y && p) || (not y && not p)) (clause_any frame clause a within)
          ∙ exact_value x y
          ∙ ap (λ t. fits_as t (false || x) y) (sym exact)
          ∙ ap (λ t. fits_as clause.exact (t || x) y) (sym always)

  pub at_most_clause : clause.exact ≡ false → clause.always ≡ false → tied_by false (literal (variable frame s 2) false) (gathered true (variables_of frame clause)) ≡ clause_function frame clause s
  at_most_clause exact always = λ i a. at a i
    where
      at : (a : Variables) → (not (a (variable frame s 2)) || any_of (variables_of frame clause) a) ≡ clause_function frame clause s a
      at a =
          let y = a (variable frame s 2) in
          let x = value_if (read frame 1 a) clause.one || any_stacked (read frame 1 a) clause.first clause.count in
          ap (λ p. not y || p) (clause_any frame clause a within)
          ∙ at_most_value x y
          ∙ ap (λ t. fits_as t (false || x) y) (sym exact)
          ∙ ap (λ t. fits_as clause.exact (t || x) y) (sym always)

-- what is made on the way is part of the clause
pub tail_part : (frame : Frame) (clause : Clause) (s : Spot) (positive : Bool) (φ : Function) → IsTail frame clause positive φ → IsClausePart frame clause s φ
tail_part frame clause s positive φ (one_of_clause v inside) = one_literal v positive inside
tail_part frame clause s positive φ (last_of_clause before vs e) = one_piece (tail before vs positive e)

pub tied_part : (frame : Frame) (clause : Clause) (s : Spot) (both sign positive : Bool) → IsClausePart frame clause s (tied_by both (literal (variable frame s 2) sign) (gathered positive (variables_of frame clause)))
tied_part frame clause s both sign positive = one_piece (tied [] (variables_of frame clause) positive both sign (variable frame s 2) refl (inl refl))

module _ (frame : Frame) (clause : Clause) (s : Spot) (always : clause.always ≡ true) where
  -- a clause whose spot is always true, or may always be
  pub always_exact : (v : ℕ) → v ≡ variable frame s 2 → clause.exact ≡ true → literal v true ≡ clause_function frame clause s
  always_exact v is exact = ap (λ u. literal u true) is ∙ sym (λ i a. fits_as (exact i) (always i || (value_if (read frame 1 a) clause.one || any_stacked (read frame 1 a) clause.first clause.count)) (a (variable frame s 2)))

  pub always_open : clause.exact ≡ false → (λ a. true) ≡ clause_function frame clause s
  always_open exact = sym (λ i a. fits_as (exact i) (always i || (value_if (read frame 1 a) clause.one || any_stacked (read frame 1 a) clause.first clause.count)) (a (variable frame s 2)))

-- What is gathered of one variable more.
use Rattle.std.proofs.Common.{◌≡◌, ℕ, zero, suc, ◌++◌, append_assoc, Some, ◌+◌, ◌-◌, ◌<◌, Bool, true, false, List, ◌∷◌, refl, sym, ap, ◌∙◌, arith}
use Rattle.std.specs.Prelude.{◌||◌, ◌&&◌, not}
use Rattle.ja_bdd.specs.Functions.{Function}
use Rattle.ja_work.specs.declared.clause.Spot.{Spot}
use Rattle.ja_work.specs.declared.clause.Spot.TheVariants.{OnStack}
use Rattle.ja_work.specs.declared.frame.Frame.{Frame}
use Rattle.ja_work.specs.declared.clause.Clause.{Clause}
use Rattle.ja_work.specs.Frames.{variable}
use Rattle.ja_work.specs.Work.{literal, any_of, gathered, tied_by, stack_variables, variables_if, variables_of}
use Rattle.ja_formula.specs.Inner.{IsStackTail, one_of_stack, last_of_stack, IsTail, one_of_clause, last_of_clause}

-- a variable more is a disjunction, or a conjunction with its negation
pub gathered_more : (positive : Bool) (v : ℕ) (vs : List ℕ) → tied_by (not positive) (literal v positive) (gathered positive vs) ≡ gathered positive (v ∷ vs)
gathered_more true v vs = refl
gathered_more false v vs = λ i a. none (a v) (any_of vs a) i
  where
    none : (p q : Bool) → (not p && not q) ≡ not (p || q)
    none true q = refl
    none false q = refl

-- the last values on the stack, and one before them
pub stack_more : (frame : Frame) (first count done : ℕ) → done < count → variable frame (OnStack (first + (count - 1 - done))) 1 ∷ stack_variables frame (first + (count - done)) done ≡ stack_variables frame (first + (count - (done + 1))) (done + 1)
stack_more frame first count done lt =
    let at : first + (count - 1 - done) ≡ first + (count - (done + 1)) = omega arith in
    let rest : first + (count - done) ≡ suc (first + (count - (done + 1))) = omega arith in
    let more : done + 1 ≡ suc done = omega arith in
    ap (λ n. variable frame (OnStack n) 1 ∷ stack_variables frame (first + (count - done)) done) at
    ∙ ap (λ n. variable frame (OnStack (first + (count - (done + 1)))) 1 ∷ stack_variables frame n done) rest
    ∙ ap (stack_variables frame (first + (count - (done + 1)))) (sym more)

pub stack_step : (frame : Frame) (first count done v : ℕ) (positive : Bool) (φ : Function) → done < count → v ≡ variable frame (OnStack (first + (count - 1 - done))) 1
    → φ ≡ gathered positive (stack_variables frame (first + (count - done)) done) → tied_by (not positive) (literal v positive) φ ≡ gathered positive (stack_variables frame (first + (count - (done + 1))) (done + 1))
stack_step frame first count done v positive φ lt is means =
    let vs = stack_variables frame (first + (count - done)) done in
    ap (tied_by (not positive) (literal v positive)) means
    ∙ gathered_more positive v vs
    ∙ ap (λ u. gathered positive (u ∷ vs)) is
    ∙ ap (gathered positive) (stack_more frame first count done lt)

-- the values on the stack are some first ones and the last ones
stack_cut : (frame : Frame) (first k n : ℕ) → stack_variables frame first (k + n) ≡ stack_variables frame first k ++ stack_variables frame (first + k) n
stack_cut frame first zero n =
    let none : zero + n ≡ n = omega arith in
    let same : first ≡ first + zero = omega arith in
    ap (stack_variables frame first) none ∙ ap (λ f. stack_variables frame f n) same
stack_cut frame first (suc k) n =
    let one : suc k + n ≡ suc (k + n) = omega arith in
    let same : suc first + k ≡ first + suc k = omega arith in
    ap (stack_variables frame first) one
    ∙ ap (λ vs. variable frame (OnStack first) 1 ∷ vs) (stack_cut frame (suc first) k n)
    ∙ ap (λ f. variable frame (OnStack first) 1 ∷ (stack_variables frame (suc first) k ++ stack_variables frame f n)) same

-- what is gathered of the last values on the stack is gathered of the last variables of the clause
pub stack_tail : (frame : Frame) (clause : Clause) (positive : Bool) (φ : Function) → IsStackTail frame clause.first clause.count positive φ → IsTail frame clause positive φ
stack_tail frame clause positive φ (one_of_stack v inside) = one_of_clause v inside
stack_tail frame clause positive φ (last_of_stack k n e) =
    let vs = stack_variables frame (clause.first + k) n in
    let cut : variables_of frame clause ≡ variables_if frame clause.one ++ (stack_variables frame clause.first k ++ vs) =
    ap (λ m. variables_if frame clause.one ++ stack_variables frame clause.first m) (sym e) ∙ ap (λ us. variables_if frame clause.one ++ us) (stack_cut frame clause.first k n) in
    last_of_clause (variables_if frame clause.one ++ stack_variables frame clause.first k) vs (cut ∙ sym (append_assoc (variables_if frame clause.one) (stack_variables frame clause.first k) vs))

-- the one spot of a clause comes before the values on the stack
pub clause_step : (frame : Frame) (clause : Clause) (positive : Bool) (spot : Spot) (v : ℕ) (φ : Function) → clause.one ≡ Some spot → v ≡ variable frame spot 1
    → φ ≡ gathered positive (stack_variables frame clause.first clause.count) → tied_by (not positive) (literal v positive) φ ≡ gathered positive (variables_of frame clause)
clause_step frame clause positive spot v φ one is means =
    let vs = stack_variables frame clause.first clause.count in
    ap (tied_by (not positive) (literal v positive)) means
    ∙ gathered_more positive v vs
    ∙ ap (λ u. gathered positive (u ∷ vs)) is
    ∙ ap (λ o. gathered positive (variables_if frame o ++ vs)) (sym one)

-- Lists of constraints of one thing more.
use Rattle.std.proofs.Common.{◌≡◌, ℕ, suc, ◌+◌, ◌-◌, ◌<◌, List, ◌++◌, sym, ap, ◌∙◌, arith, append_assoc}
use Rattle.ja_constraints.specs.declared.constraint.Constraint.{Constraint}
use Rattle.ja_constraints.specs.Links.{over}

-- what is told of the next number
pub over-more : (f : ℕ → List Constraint) (k count : ℕ) (told new all : List Constraint) → k < count → new ≡ told ++ f k → told ++ over f k (count - k) ≡ all
    → new ++ over f (k + 1) (count - (k + 1)) ≡ all
over-more f k count told new all lt is before =
    let left : count - k ≡ suc (count - (k + 1)) = omega arith in
    let next : suc k ≡ k + 1 = omega arith in
    let one : over f k (count - k) ≡ f k ++ over f (k + 1) (count - (k + 1)) = ap (over f k) left ∙ ap (λ (n : ℕ). f k ++ over f n (count - (k + 1))) next in
    ap (λ (t : List Constraint). t ++ over f (k + 1) (count - (k + 1))) is ∙ append_assoc told (f k) (over f (k + 1) (count - (k + 1)))
    ∙ ap (λ (t : List Constraint). told ++ t) (sym one) ∙ before

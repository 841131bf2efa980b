use Rattle.std.proofs.Common.{◌≡◌, Bool, true, false, refl, sym}
use Rattle.ja_join.specs.Inner.{stepped_from}
use Rattle.ja_join.proofs.Leading.{stepped_is}
use Rattle.ja_join.proofs.law.law_step.Goals as goal

pub returns-clause-some : goal.returns-clause-some
returns-clause-some c rule φ = (stepped_from rule 0 rule.start φ, stepped_is rule φ)

-- truths that imply each other are one
one_truth : (p q : Bool) → (p ≡ true → q ≡ true) → (q ≡ true → p ≡ true) → p ≡ q
one_truth true q there back = sym (there refl)
one_truth false true there back = back refl
one_truth false false there back = refl

pub returns-clause-one : goal.returns-clause-one
returns-clause-one c rule φ ψ χ is other i a = one_truth (ψ a) (χ a)
    (λ t. let from = (is a).0 t in (other a).1 from.0 from.1 from.2)
    (λ t. let from = (other a).0 t in (is a).1 from.0 from.1 from.2) i

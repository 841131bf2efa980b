-- The least set is a solution, and lies below every solution.
use Rattle.std.proofs.Common.{ℕ, zero, suc, ◌+◌, ◌≤◌, List, [], ◌∷◌, arith}
use Rattle.ja_facts.specs.Least.{Each, Iterate, Least, IsSolution}

pub Each-weaker : {F : Type 0} (S T : F → Type 0) → ((f : F) → S f → T f) → (ps : List F) → Each S ps → Each T ps
Each-weaker S T h [] each = tt
Each-weaker S T h (p ∷ ps) each = (h p each.0, Each-weaker S T h ps each.1)

module _ {F : Type 0} (R : List F → F → Type 0) where
  -- what a round gives, each later round gives too
  pub Iterate-later : (m n : ℕ) → n ≤ m → (f : F) → Iterate R n f → Iterate R m f
  Iterate-later m zero room f x = absurd x
  Iterate-later zero (suc n) room f x = absurd (omega arith)
  Iterate-later (suc m) (suc n) room f x =
      (x.0, x.1, Each-weaker (Iterate R n) (Iterate R m) (Iterate-later m n (omega arith)) x.0 x.2)

  -- some round has all premises
  pub one_round : (ps : List F) → Each (Least R) ps → (n : ℕ) × Each (Iterate R n) ps
  one_round [] each = (0, tt)
  one_round (p ∷ ps) each =
      let rest : (n : ℕ) × Each (Iterate R n) ps = one_round ps each.1 in
      let both : ℕ = each.0.0 + rest.0 in (
        each.0.0 + rest.0,
        (
          Iterate-later (each.0.0 + rest.0) each.0.0 (omega arith) p each.0.1,
          Each-weaker (Iterate R rest.0) (Iterate R (each.0.0 + rest.0)) (Iterate-later (each.0.0 + rest.0) rest.0 (omega arith)) ps rest.1,
        ),
      )

  pub Least-is_solution : IsSolution R (Least R)
  Least-is_solution ps f rule each =
      let round : (n : ℕ) × Each (Iterate R n) ps = one_round ps each in
      (suc round.0, (ps, rule, round.1))

  Iterate-below : (S : F → Type 0) → IsSolution R S → (n : ℕ) (f : F) → Iterate R n f → S f
  Iterate-below S solves zero f x = absurd x
  Iterate-below S solves (suc n) f x = solves x.0 f x.1 (Each-weaker (Iterate R n) S (Iterate-below S solves n) x.0 x.2)

  pub Least-below : (S : F → Type 0) → IsSolution R S → (f : F) → Least R f → S f
  Least-below S solves f x = Iterate-below S solves x.0 f x.1

-- where each rule of the one is a rule of the other, so is its least solution below the other's
pub Least-monotone : {F : Type 0} (R T : List F → F → Type 0) → ((ps : List F) (f : F) → R ps f → T ps f) → (f : F) → Least R f → Least T f
Least-monotone R T h f x = Least-below R (Least T) (λ ps g rule each. Least-is_solution T ps g (h ps g rule) each) f x

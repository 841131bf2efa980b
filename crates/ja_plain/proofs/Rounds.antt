-- The least set under rules is a solution, and below every solution.
use Rattle.std.proofs.Common.{ℕ, zero, suc, ◌+◌, ◌≤◌, List, [], ◌∷◌, arith}
use Rattle.ja_plain.specs.Least.{Each, Iterate, Least, IsSolution}

pub each-in : {F : Type 0} (S T : F → Type 0) → ((f : F) → S f → T f) → (fs : List F) → Each S fs → Each T fs
each-in S T within [] all = tt
each-in S T within (f ∷ fs) all = (within f all.0, each-in S T within fs all.1)

module _ {F : Type 0} (R : List F → F → Type 0) where
  -- what is there after some rounds is there after more
  more-rounds : (n k : ℕ) → n ≤ k → (f : F) → Iterate R n f → Iterate R k f
  more-rounds zero k room f i = absurd i
  more-rounds (suc n) zero room f i = absurd (omega arith)
  more-rounds (suc n) (suc k) room f i = (i.0, i.1, each-in (Iterate R n) (Iterate R k) (more-rounds n k (omega arith)) i.0 i.2)

  all-in-one : (fs : List F) → Each (Least R) fs → (n : ℕ) × Each (Iterate R n) fs
  all-in-one [] all = (0, tt)
  all-in-one (f ∷ fs) all =
      let rest : (n : ℕ) × Each (Iterate R n) fs = all-in-one fs all.1 in
      let n : ℕ = all.0.0 + rest.0 in
      (n, (more-rounds all.0.0 n (omega arith) f all.0.1, each-in (Iterate R rest.0) (Iterate R n) (more-rounds rest.0 n (omega arith)) fs rest.1))

  pub least-solves : IsSolution R (Least R)
  least-solves premises f r all =
      let one : (n : ℕ) × Each (Iterate R n) premises = all-in-one premises all in
      (suc one.0, (premises, r, one.1))

  -- a fact of the least set is the conclusion of a rule whose premises are facts of it
  pub comes-by : (f : F) → Least R f → (premises : List F) × R premises f × Each (Least R) premises
  comes-by f (zero, i) = absurd i
  comes-by f (suc n, i) = (i.0, i.1, each-in (Iterate R n) (Least R) (λ g h. (n, h)) i.0 i.2)

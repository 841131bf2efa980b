-- What is searched for in a relation.
use Rattle.std.specs.Prelude.{◌≡◌, ℕ, true}
use Rattle.ja_node_core.specs.Tree.{Assignment}
use Rattle.ja_bdd.specs.Functions.{Function}

-- both functions are true somewhere where the variable is true
abbrev pub HoldsWith : (var : ℕ) → (φ σ : Function) → Type 0
HoldsWith var φ σ = (a : Assignment) × (a var ≡ true) × (φ a ≡ true) × (σ a ≡ true)

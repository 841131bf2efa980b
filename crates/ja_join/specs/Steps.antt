-- What a step of a relation means.
use Rattle.std.specs.Prelude.{◌≡◌, ◌≢◌, ◌⊎◌, ℕ, ◌≤◌, ◌==◌, Bool, true, false, List, [], ◌∷◌, Option, Some, None, if◌then◌else◌}
use Rattle.ja_node_core.specs.declared.aim.Aim.{Ghosts}
use Rattle.ja_node_core.specs.Tree.{Tree, Assignment}
use Rattle.ja_node_core.specs.Node.{Words}
use Rattle.ja_node_table.specs.declared.table.NodeTable.{NodeTable}
use Rattle.ja_node_table.specs.declared.full.Full.{Full}
use Rattle.ja_bdd.specs.Functions.{Function, fixed, both, IsFree, IsAimed}
use Rattle.ja_bdd.specs.Room.{LacksRoomUnder}
use Rattle.ja_join.specs.declared.rule.Move.{Move}
use Rattle.ja_join.specs.declared.rule.Rule.{Rule}
use Rattle.ja_join.specs.Moves.{allows}
use Rattle.ja_base.specs.Limit.{last_variable}

-- the variable is that of no move
abbrev pub IsStill : List Move → ℕ → Type 0
IsStill [] v = Unit {0}
IsStill (m ∷ moves) v = (v ≢ m.variable) × IsStill moves v

-- the rule may lead from an assignment to another: it allows both at the variables of its moves, and all other variables stay
pub record Leads (rule : Rule) (before after : Assignment) : Type 0 where
  pub allowed : allows rule.accepted rule.moves.items rule.start before after ≡ true
  pub others : (v : ℕ) → IsStill rule.moves.items v → before v ≡ after v

-- the function is what the rule makes of another: true exactly where the rule may lead to from where the other is true
abbrev pub IsStep : Rule → (φ ψ : Function) → Type 0
IsStep rule φ ψ = (after : Assignment) → (ψ after ≡ true → (before : Assignment) × Leads rule before after × (φ before ≡ true)) × ((before : Assignment) → Leads rule before after → φ before ≡ true → ψ after ≡ true)

-- the first function is true only where the second is
abbrev pub IsBelow : Function → Function → Type 0
IsBelow ψ χ = (a : Assignment) → ψ a ≡ true → χ a ≡ true

-- the variable is that of a move that forgets it
abbrev pub IsForgotten : List Move → ℕ → Type 0
IsForgotten [] v = ⊥
IsForgotten (m ∷ moves) v = ((v ≡ m.variable) × (m.forgets ≡ true)) ⊎ IsForgotten moves v

-- the variable plays no part after the moves: it is that of no move and the function does not look at it, or it is forgotten
abbrev pub IsGone : List Move → Function → ℕ → Type 0
IsGone moves φ v = (IsStill moves v × IsFree v φ) ⊎ IsForgotten moves v

-- the second function looks, but for the variables of moves that do not forget them, at nothing that the first does not look at
abbrev pub LooksAs : Rule → (φ ψ : Function) → Type 0
LooksAs rule φ ψ = (v : ℕ) → IsGone rule.moves.items φ v → IsFree v ψ

-- the function looks at variables up to 4,094 alone
abbrev pub IsLow : Function → Type 0
IsLow φ = (a b : Assignment) → ((v : ℕ) → v ≤ last_variable → a v ≡ b v) → φ a ≡ φ b

-- each part of the function is of the aim: each function below it that looks, but for the variables of moves, at no more than φ does
abbrev pub ArePartsAimed : (Tree → Type 0) → Rule → (φ χ : Function) → Type 0
ArePartsAimed aim rule φ χ = (ψ : Function) → IsLow ψ → LooksAs rule φ ψ → IsBelow ψ χ → IsAimed aim ψ

-- the function lies below what is left of another, some of whose variables are fixed
pub data IsWithin : (χ ψ : Function) → Type 0 where
  within : (χ ψ : Function) → IsBelow ψ χ → IsWithin χ ψ
  fixing : (v : ℕ) (b : Bool) (χ ψ : Function) → IsWithin (fixed v b χ) ψ → IsWithin χ ψ

-- the table has no room for a word under a part of what is left of the function
pub record LacksRoomAmong {A : Type 0} {G : Ghosts A} (t : NodeTable A) (seen : Words) (χ : Function) (full : Full A G) : Type 0 where
  pub part : Function
  pub within : IsWithin χ part
  pub lacks : LacksRoomUnder t seen part full

-- whether a move tells of a callee's variable
abbrev pub tells : Option ℕ → ℕ → Bool
tells None x = false
tells (Some y) x = x == y

-- the callee's variables as the moves tell them: each has the truth of the variable of the move that tells of it, before the move; all others are false
abbrev pub told_by : List Move → Assignment → Assignment
told_by [] a x = false
told_by (m ∷ moves) a x = if tells m.told x then a m.variable else told_by moves a x

-- a function of the callee's variables as one of the caller's
abbrev pub handed : List Move → Function → Function
handed moves σ a = σ (told_by moves a)

-- a function of the caller's variables and one of the callee's that both hold
abbrev pub joint : List Move → (φ σ : Function) → Function
joint moves φ σ = both φ (handed moves σ)

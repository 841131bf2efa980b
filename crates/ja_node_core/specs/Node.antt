-- What nodes mean where some words are given, and when the words of a table are canonical.
use Rattle.std.specs.Prelude.{◌≡◌, ◌≢◌, ℕ, ◌<◌, ◌≤◌, Bool, true, false}
use Rattle.ja_node_core.specs.Tree.{Tree, leaf, branch}
use Rattle.ja_node_core.specs.Word.{word_of, var_of, low_of, high_of, places, place}
use Rattle.ja_base.specs.Limit.{last_variable}

-- the word at each place, or 0
abbrev pub Words : Type 0
Words = ℕ → ℕ

-- the node of a truth value
abbrev pub constant : Bool → ℕ
constant false = 0
constant true = 1

-- the node means the tree's function: the word at each node under it is given
abbrev pub Means : Words → Tree → ℕ → Type 0
Means at (leaf b) n = n ≡ constant b
Means at (branch v low high) n = (1 < n) × (0 < at n) × (var_of (at n) ≡ v) × Means at low (low_of (at n)) × Means at high (high_of (at n))

-- the words at the node and at all nodes under it are given
abbrev pub Knows : Words → ℕ → Type 0
Knows at n = (t : Tree) × Means at t n

-- every word of the first stands in the second
abbrev pub IsPart : Words → Words → Type 0
IsPart some all = (p : ℕ) → 0 < some p → all p ≡ some p

-- a child is a constant, or a node that stands and has a greater variable
abbrev pub IsChild : Words → ℕ → ℕ → Type 0
IsChild at var child = 1 < child → (0 < at child) × (var < var_of (at child))

-- the word is that of a node over children that stand
pub record IsNode (at : Words) (w : ℕ) : Type 0 where
  pub small : var_of w ≤ last_variable
  pub packed : w ≡ word_of (var_of w) (low_of w) (high_of w)
  pub apart : low_of w ≢ high_of w
  pub low : IsChild at (var_of w) (low_of w)
  pub high : IsChild at (var_of w) (high_of w)

-- a node other than w stands at p
abbrev pub IsOther : Words → ℕ → ℕ → Type 0
IsOther at w p = (0 < at p) × (at p ≢ w)

-- p is the i-th place of w's path for some i, and other nodes stand at all places before
pub record IsPlaced (n : ℕ) (at : Words) (w p : ℕ) : Type 0 where
  pub step : ℕ
  pub within : step < places n
  pub here : p ≡ place n w step
  pub before : (j : ℕ) → j < step → IsOther at w (place n w j)

-- the n words of a table are canonical: no word stands at a constant, each is that of a node and stands as early on its path as it can, and what it means is of the aim
pub record IsCanonical (n : ℕ) (aim : Tree → Type 0) (at : Words) : Type 0 where
  pub constants : (at 0 ≡ 0) × (at 1 ≡ 0)
  pub nodes : (p : ℕ) → 0 < at p → IsNode at (at p)
  pub placed : (p : ℕ) → 0 < at p → IsPlaced n at (at p) p
  pub aimed : (p : ℕ) (t : Tree) → 0 < at p → Means at t p → aim t

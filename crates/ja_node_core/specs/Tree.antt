-- Functions of variables, named by their reduced trees.
use Rattle.std.specs.Prelude.{◌≡◌, ◌≢◌, ℕ, ◌<◌, Bool, if◌then◌else◌}

-- a truth value, or a variable with the tree where it is false and the tree where it is true
pub data Tree : Type 0 where
  leaf : Bool → Tree
  branch : ℕ → Tree → Tree → Tree

-- which variables are true
abbrev pub Assignment : Type 0
Assignment = ℕ → Bool

-- the value of the tree's function under an assignment
abbrev pub truth : Tree → Assignment → Bool
truth (leaf b) a = b
truth (branch v low high) a = (if a v then truth high a else truth low a)

-- both trees are trees of one function
abbrev pub IsSameFunction : Tree → Tree → Type 0
IsSameFunction s t = (a : Assignment) → truth s a ≡ truth t a

-- the tree is constant, or its root has a greater variable than v
abbrev pub IsAbove : ℕ → Tree → Type 0
IsAbove v (leaf b) = Unit {0}
IsAbove v (branch u low high) = v < u

-- the variables rise from the root on, and no variable has one tree twice
abbrev pub IsReduced : Tree → Type 0
IsReduced (leaf b) = Unit {0}
IsReduced (branch v low high) = (low ≢ high) × IsAbove v low × IsAbove v high × IsReduced low × IsReduced high

-- the aim has at least so many functions that are not constant, no two of them the same
pub record HasFunctions (aim : Tree → Type 0) (count : ℕ) : Type 0 where
  pub tree : ℕ → Tree
  pub aimed : (i : ℕ) → i < count → aim (tree i)
  pub reduced : (i : ℕ) → i < count → IsReduced (tree i)
  pub branching : (i : ℕ) (b : Bool) → i < count → tree i ≢ leaf b
  pub apart : (i j : ℕ) → i < count → j < count → IsSameFunction (tree i) (tree j) → i ≡ j

-- What nodes mean, where some words are given.
use Rattle.std.specs.Prelude.{◌≡◌, ℕ, zero, suc, ◌==◌, nat_lt, false, true, if◌then◌else◌}
use Rattle.ja_node_core.specs.Tree.{Assignment}
use Rattle.ja_node_core.specs.Word.{var_of, low_of, high_of}
use Rattle.ja_node_core.specs.Node.{Words, Knows, IsNode}
use Rattle.ja_bdd.specs.Functions.{Function, fixed, chosen, IsFrom}
use Rattle.ja_base.specs.Limit.{max_variables}

-- the value of a node, down to so many levels: that of a constant is told by its number, that of any other node is its high child's where its variable is true, else its low child's
unfoldable pub value_within : ℕ → Words → ℕ → Function
value_within zero at n a = n == 1
value_within (suc levels) at n a =
    if nat_lt n 2 then n == 1
    else (if a (var_of (at n)) then value_within levels at (high_of (at n)) a else value_within levels at (low_of (at n)) a)

-- what a node means. Variables rise from a node to its children, so there are no more levels than variables
unfoldable pub meaning : Words → ℕ → Function
meaning at n = value_within max_variables at n

-- the node is known, and means the function
abbrev pub IsMeant : Words → ℕ → Function → Type 0
IsMeant at n φ = Knows at n × (meaning at n ≡ φ)

-- each known node stays known, with its meaning
abbrev pub Keeps : Words → Words → Type 0
Keeps old new = (n : ℕ) → Knows old n → IsMeant new n (meaning old n)

-- what the node f means looks at no variable below v, and the other two nodes mean what it becomes where v is false, and where v is true
pub record IsHalved (at : Words) (v f lo hi : ℕ) : Type 0 where
  pub from : IsFrom v (meaning at f)
  pub low : IsMeant at lo (fixed v false (meaning at f))
  pub high : IsMeant at hi (fixed v true (meaning at f))

-- the assignment with the variables below v as in the first
abbrev pub with_below : ℕ → Assignment → Assignment → Assignment
with_below v first a u = (if nat_lt u v then first u else a u)

-- the word is that of a node under the function: over known children, and what it means is what fixing all variables below its own makes of the function
pub record IsUnder (at : Words) (φ : Function) (w : ℕ) : Type 0 where
  pub node : IsNode at w
  pub low : Knows at (low_of w)
  pub high : Knows at (high_of w)
  pub below : Assignment
  pub means : (a : Assignment) → chosen (var_of w) (meaning at (low_of w)) (meaning at (high_of w)) a ≡ φ (with_below (var_of w) below a)

-- In part of canonical words two nodes of one function are one node.
use Rattle.std.proofs.Common.{◌≡◌, ℕ, ap, subst}
use Rattle.ja_node_core.specs.Tree.{Tree, truth, IsSameFunction}
use Rattle.ja_node_core.specs.Node.{Words, Means, IsPart, IsCanonical}
use Rattle.ja_node_core.proofs.Meanings.{means_more, tree_one, node_one, tree_reduced}
use Rattle.ja_node_core.proofs.Reduced.{same_tree}

pub one_function : (at : Words) (s t : Tree) (f g : ℕ) → Means at s f → Means at t g → f ≡ g → IsSameFunction s t
one_function at s t f g m o same a = ap (λ r. truth r a) (tree_one at s t g (subst (Means at s) same m) o)

pub one_node : (n : ℕ) (aim : Tree → Type 0) (known at : Words) → IsCanonical n aim at → IsPart known at → (s t : Tree) (f g : ℕ) → Means known s f → Means known t g → IsSameFunction s t → f ≡ g
one_node n aim known at can part s t f g m o same =
    let m' = means_more known at part s f m in
    let o' = means_more known at part t g o in
    let tree : s ≡ t = same_tree s t (tree_reduced n aim at can s f m') (tree_reduced n aim at can t g o') same in
    node_one n aim at can t f g (subst (λ r. Means at r f) tree m') o'

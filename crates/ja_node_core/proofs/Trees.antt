-- In canonical words each node that stands means a tree.
use Rattle.std.proofs.Common.{◌≡◌, ℕ, zero, suc, ◌+◌, ◌<◌, ◌≤◌, Bool, true, false, refl, ap, ◌∙◌, subst, arith}
use native.Mathlib.Decide.{ℕ_discrete, dec_lt}
use Rattle.ja_node_core.specs.Tree.{Tree, leaf, branch, HasFunctions}
use Rattle.ja_node_core.specs.Word.{var_of, low_of, high_of}
use Rattle.ja_node_core.specs.Node.{Words, Means, IsChild, IsCanonical}
use Rattle.ja_node_core.proofs.Meanings.{tree_reduced}
use Rattle.ja_node_core.proofs.Functions.{one_node}

module _ (n : ℕ) (aim : Tree → Type 0) (at : Words) (can : IsCanonical n aim at) where
  -- a child's tree, if that of a node can be had
  child_tree : (v child : ℕ) → IsChild at v child → (0 < at child → v < var_of (at child) → (t : Tree) × Means at t child) → Dec (child ≡ 0) → Dec (child ≡ 1) → (t : Tree) × Means at t child
  child_tree v child is node (yes e) d = (leaf false, e)
  child_tree v child is node (no _) (yes e) = (leaf true, e)
  child_tree v child is node (no not_zero) (no not_one) = let stands = is (omega arith) in node stands.0 stands.1

  -- the variables rise, so a node's tree has no more levels than there are variables from its own on
  tree_within : (levels p : ℕ) → 0 < at p → 4095 ≤ var_of (at p) + levels → (t : Tree) × Means at t p
  tree_within zero p pos up = absurd (let small = (can.nodes p pos).small in omega arith)
  tree_within (suc levels) p pos up =
      let node = can.nodes p pos in
      let go : (child : ℕ) → 0 < at child → var_of (at p) < var_of (at child) → (t : Tree) × Means at t child = λ child stands greater. tree_within levels child stands (omega arith) in
      let low = child_tree (var_of (at p)) (low_of (at p)) node.low (go (low_of (at p))) (ℕ_discrete _ _) (ℕ_discrete _ _) in
      let high = child_tree (var_of (at p)) (high_of (at p)) node.high (go (high_of (at p))) (ℕ_discrete _ _) (ℕ_discrete _ _) in
      let above : 1 < p = inner p pos (ℕ_discrete p 0) (ℕ_discrete p 1) in
      (branch (var_of (at p)) low.0 high.0, (above, pos, refl, low.1, high.1))
    where
      inner : (p : ℕ) → 0 < at p → Dec (p ≡ 0) → Dec (p ≡ 1) → 1 < p
      inner p pos (yes e) d = absurd (let none : at p ≡ 0 = ap at e ∙ can.constants.0 in omega arith)
      inner p pos (no _) (yes e) = absurd (let none : at p ≡ 0 = ap at e ∙ can.constants.1 in omega arith)
      inner p pos (no not_zero) (no not_one) = omega arith

  pub tree_at : (p : ℕ) → 0 < at p → (t : Tree) × Means at t p
  tree_at p pos = tree_within 4095 p pos (omega arith)

  -- nodes at so many different places mean so many different functions
  pub functions : (count : ℕ) (spot : ℕ → ℕ) → ((i : ℕ) → i < count → 0 < at (spot i)) → ((i j : ℕ) → i < count → j < count → spot i ≡ spot j → i ≡ j) → HasFunctions aim count
  functions count spot stands apart = record {
    tree = λ i. tree_of i (dec_lt i count);
    aimed = λ i lt. let is = spot_tree i lt (dec_lt i count) in can.aimed (spot i) (tree_of i (dec_lt i count)) (stands i lt) is;
    reduced = λ i lt. tree_reduced n aim at can (tree_of i (dec_lt i count)) (spot i) (spot_tree i lt (dec_lt i count));
    branching = λ i b lt e. no_constant i b lt (subst (λ t. Means at t (spot i)) e (spot_tree i lt (dec_lt i count)));
    apart = λ i j lt less same. apart i j lt less (one_node n aim at at can (λ p pos. refl) (tree_of i (dec_lt i count)) (tree_of j (dec_lt j count)) (spot i) (spot j) (spot_tree i lt (dec_lt i count)) (spot_tree j less (dec_lt j count)) same);
  }
    where
      tree_of : (i : ℕ) → Dec (i < count) → Tree
      tree_of i (yes lt) = (tree_at (spot i) (stands i lt)).0
      tree_of i (no _) = leaf false

      spot_tree : (i : ℕ) → i < count → (d : Dec (i < count)) → Means at (tree_of i d) (spot i)
      spot_tree i lt (yes less) = (tree_at (spot i) (stands i less)).1
      spot_tree i lt (no not) = absurd (not lt)

      no_constant : (i : ℕ) (b : Bool) → i < count → Means at (leaf b) (spot i) → ⊥
      no_constant i false lt e = let none : at (spot i) ≡ 0 = ap at e ∙ can.constants.0 in let pos = stands i lt in omega arith
      no_constant i true lt e = let none : at (spot i) ≡ 0 = ap at e ∙ can.constants.1 in let pos = stands i lt in omega arith

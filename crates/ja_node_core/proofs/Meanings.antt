-- A node means one tree, and in canonical words a tree has one node, which is reduced.
use Rattle.std.proofs.Common.{◌≡◌, ℕ, ◌<◌, ◌≤◌, Bool, true, false, refl, sym, ap, ◌∙◌, subst, arith}
use native.Mathlib.Decide.{dec_lt}
use Rattle.ja_node_core.specs.Tree.{Tree, leaf, branch, IsAbove, IsReduced}
use Rattle.ja_node_core.specs.Word.{word_of, var_of, low_of, high_of, place}
use Rattle.ja_node_core.specs.Node.{Words, constant, Means, IsPart, IsChild, IsPlaced, IsCanonical}

pub constant_small : (b : Bool) → constant b ≤ 1
constant_small false = omega arith
constant_small true = omega arith

pub constant_one : (b c : Bool) → constant b ≡ constant c → b ≡ c
constant_one false false e = refl
constant_one true true e = refl
constant_one false true e = absurd (omega arith)
constant_one true false e = absurd (omega arith)

-- a node means the same where more words are given
pub means_more : (some all : Words) → IsPart some all → (t : Tree) (n : ℕ) → Means some t n → Means all t n
means_more some all part (leaf b) n m = m
means_more some all part (branch v low high) n m =
    let same = part n m.1 in (
      m.0,
      subst (λ w. 0 < w) (sym same) m.1,
      ap var_of same ∙ m.2,
      subst (λ w. Means all low (low_of w)) (sym same) (means_more some all part low _ m.3),
      subst (λ w. Means all high (high_of w)) (sym same) (means_more some all part high _ m.4),
    )

-- a node means one tree
pub tree_one : (at : Words) (s t : Tree) (n : ℕ) → Means at s n → Means at t n → s ≡ t
tree_one at (leaf b) (leaf c) n m o = ap leaf (constant_one b c (sym m ∙ o))
tree_one at (leaf b) (branch v low high) n m o = absurd (omega (arith, constant_small b))
tree_one at (branch v low high) (leaf c) n m o = absurd (omega (arith, constant_small c))
tree_one at (branch v low high) (branch u x y) n m o =
    let root : v ≡ u = sym m.2 ∙ o.2 in
    let left = tree_one at low x _ m.3 o.3 in
    let right = tree_one at high y _ m.4 o.4 in
    λ i. branch (root i) (left i) (right i)

module _ (n : ℕ) (aim : Tree → Type 0) (at : Words) (can : IsCanonical n aim at) where
  -- of two places of one word neither comes before the other on its path
  same_step : (w p q : ℕ) → at p ≡ w → at q ≡ w → (a : IsPlaced n at w p) (b : IsPlaced n at w q) → Dec (a.step < b.step) → Dec (b.step < a.step) → p ≡ q
  same_step w p q e f a b (yes lt) d = absurd ((b.before a.step lt).1 (ap at (sym a.here) ∙ e))
  same_step w p q e f a b (no x) (yes lt) = absurd ((a.before b.step lt).1 (ap at (sym b.here) ∙ f))
  same_step w p q e f a b (no x) (no y) = let same : a.step ≡ b.step = omega arith in a.here ∙ ap (place n w) same ∙ sym b.here

  -- a word stands at one place
  pub place_one : (w p q : ℕ) → 0 < w → at p ≡ w → at q ≡ w → p ≡ q
  place_one w p q pos e f =
      let placed : (r : ℕ) → at r ≡ w → IsPlaced n at w r = λ r is. subst (λ u. IsPlaced n at u r) is (can.placed r (subst (λ u. 0 < u) (sym is) pos)) in
      same_step w p q e f (placed p e) (placed q f) (dec_lt _ _) (dec_lt _ _)

  -- a tree has one node
  pub node_one : (t : Tree) (p q : ℕ) → Means at t p → Means at t q → p ≡ q
  node_one (leaf b) p q m o = m ∙ sym o
  node_one (branch v low high) p q m o =
      let left = node_one low _ _ m.3 o.3 in
      let right = node_one high _ _ m.4 o.4 in
      let root : var_of (at p) ≡ var_of (at q) = m.2 ∙ sym o.2 in
      let same : at p ≡ at q = (can.nodes p m.1).packed ∙ (λ i. word_of (root i) (left i) (right i)) ∙ sym (can.nodes q o.1).packed in
      place_one (at q) p q o.1 same refl

  child_above : (v child : ℕ) (t : Tree) → IsChild at v child → Means at t child → IsAbove v t
  child_above v child (leaf b) is m = tt
  child_above v child (branch u low high) is m = subst (λ w. v < w) m.2 (is m.0).1

  -- the tree of a node is reduced
  pub tree_reduced : (t : Tree) (p : ℕ) → Means at t p → IsReduced t
  tree_reduced (leaf b) p m = tt
  tree_reduced (branch v low high) p m =
      let node = can.nodes p m.1 in (
        (λ same. node.apart (node_one low _ _ m.3 (subst (λ t. Means at t (high_of (at p))) (sym same) m.4))),
        child_above v _ low (subst (λ u. IsChild at u (low_of (at p))) m.2 node.low) m.3,
        child_above v _ high (subst (λ u. IsChild at u (high_of (at p))) m.2 node.high) m.4,
        tree_reduced low _ m.3,
        tree_reduced high _ m.4,
      )

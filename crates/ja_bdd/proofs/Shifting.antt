-- How a renamed node is made of its renamed parts.
use Rattle.std.proofs.Common.{◌≡◌, ◌≢◌, ℕ, ◌<◌, ◌≤◌, Bool, true, false, refl, sym, ap, ◌∙◌, subst, arith}
use Rattle.std.specs.Prelude.{if◌then◌else◌}
use native.Mathlib.Decide.{ℕ_discrete, dec_lt}
use Rattle.ja_node_core.specs.Tree.{Tree, leaf, branch, Assignment, truth, IsReduced}
use Rattle.ja_node_core.specs.Node.{Words, Knows}
use Rattle.ja_node_core.proofs.Reduced.{with_var_here, with_var_other, children_same, same_tree, free_above}
use Rattle.ja_bdd.specs.Functions.{Function, with_var, fixed, renamed, IsFree, IsFrom, KeepsOrder}
use Rattle.ja_bdd.specs.Meaning.{meaning, IsHalved}
use Rattle.ja_bdd.proofs.Fixing.{with_cases, free_still}
use Rattle.ja_bdd.proofs.Named.{IsSmall}
use Rattle.ja_bdd.proofs.Sound.{Sound, tree_facts, meaning_tree, meaning_small}

-- the assignments agree on all variables that the function looks at
abbrev pub Agree : Function → Assignment → Assignment → Type 0
Agree φ a b = (u : ℕ) → ¬ IsFree u φ → a u ≡ b u

-- the root of a reduced tree is looked at
root_looks : (v : ℕ) (low high : Tree) → IsReduced (branch v low high) → ¬ IsFree v (truth (branch v low high))
root_looks v low high red free = red.0 (same_tree low high red.3 red.4 (children_same v low high (branch v low high) red free (λ a. refl)))

-- what a child does not look at is what the node does not look at, but for the node's own variable
low_free : (v u : ℕ) (low high : Tree) → IsReduced (branch v low high) → IsFree u (truth (branch v low high)) → IsFree u (truth low)
low_free v u low high red free b a = at (ℕ_discrete u v)
  where
    value : (c : Assignment) → truth (branch v low high) (with_var c v false) ≡ truth low c
    value c = ap (λ t. if t then truth high (with_var c v false) else truth low (with_var c v false)) (with_var_here c v false) ∙ free_above v low red.1 red.3 false c

    still : IsFree u (fixed v false (truth (branch v low high)))
    still = free_still u v false (truth (branch v low high)) free

    at : Dec (u ≡ v) → truth low (with_var a u b) ≡ truth low a
    at d = sym (value (with_var a u b)) ∙ still b a ∙ value a

high_free : (v u : ℕ) (low high : Tree) → IsReduced (branch v low high) → IsFree u (truth (branch v low high)) → IsFree u (truth high)
high_free v u low high red free b a = sym (value (with_var a u b)) ∙ still b a ∙ value a
  where
    value : (c : Assignment) → truth (branch v low high) (with_var c v true) ≡ truth high c
    value c = ap (λ t. if t then truth high (with_var c v true) else truth low (with_var c v true)) (with_var_here c v true) ∙ free_above v high red.2 red.4 true c

    still : IsFree u (fixed v true (truth (branch v low high)))
    still = free_still u v true (truth (branch v low high)) free

-- a tree's function depends on the variables that it looks at
tree_agrees : (t : Tree) → IsReduced t → (a b : Assignment) → Agree (truth t) a b → truth t a ≡ truth t b
tree_agrees (leaf c) red a b same = refl
tree_agrees (branch v low high) red a b same =
    let root = same v (root_looks v low high red) in
    let left = tree_agrees low red.3 a b (λ u looks. same u (λ free. looks (low_free v u low high red free))) in
    let right = tree_agrees high red.4 a b (λ u looks. same u (λ free. looks (high_free v u low high red free))) in
    λ i. if root i then right i else left i

pub node_agrees : (k : Words) → Sound k → (n : ℕ) → Knows k n → (a b : Assignment) → Agree (meaning k n) a b → meaning k n a ≡ meaning k n b
node_agrees k sound n (t, m) = subst (λ (φ : Function). (a b : Assignment) → Agree φ a b → φ a ≡ φ b) (sym (meaning_tree k sound t n m)) (tree_agrees t (tree_facts k sound t n m).0)

-- a renaming that keeps the order of a function keeps that of its parts
pub order_fixed : (m : ℕ → ℕ) (v : ℕ) (b : Bool) (φ : Function) → KeepsOrder m φ → KeepsOrder m (fixed v b φ)
order_fixed m v b φ keeps u w looks looks' lt = keeps u w (λ free. looks (free_still u v b φ free)) (λ free. looks' (free_still w v b φ free)) lt

module _ (k : Words) (sound : Sound k) (m : ℕ → ℕ) where
  -- the renamed part is the part of the renamed
  pub renamed_fixed : (v n : ℕ) (b : Bool) → Knows k n → ¬ IsFree v (meaning k n) → KeepsOrder m (meaning k n) → IsFrom v (meaning k n) → renamed m (fixed v b (meaning k n)) ≡ fixed (m v) b (renamed m (meaning k n))
  renamed_fixed v n b x looks keeps from i a = node_agrees k sound n x (with_var (λ w. a (m w)) v b) (λ w. with_var a (m v) b (m w))
      (λ u here. with_cases (λ w. a (m w)) (λ w. with_var a (m v) b (m w)) v b u
      (λ e. sym (ap (λ w. with_var a (m v) b (m w)) e ∙ with_var_here a (m v) b))
      (λ ne. sym (with_var_other a (m v) b (m u) (apart u here ne (dec_lt u v)))))
      i
    where
      apart : (u : ℕ) → ¬ IsFree u (meaning k n) → u ≢ v → Dec (u < v) → m u ≢ m v
      apart u here ne (yes lt) e = here (from u lt)
      apart u here ne (no out) e = let above = keeps v u looks here (omega arith) in omega arith

  -- a renamed function looks at no variable before its first one's partner
  pub renamed_from : (v n : ℕ) → Knows k n → ¬ IsFree v (meaning k n) → KeepsOrder m (meaning k n) → IsFrom v (meaning k n) → IsFrom (m v) (renamed m (meaning k n))
  renamed_from v n x looks keeps from u lt b a = node_agrees k sound n x (λ w. with_var a u b (m w)) (λ w. a (m w))
      (λ w here. with_var_other a u b (m w) (λ e. past w here (ℕ_discrete w v) (dec_lt w v) e))
    where
      past : (w : ℕ) → ¬ IsFree w (meaning k n) → Dec (w ≡ v) → Dec (w < v) → m w ≢ u
      past w here (yes same) d e = let is = ap m same in omega arith
      past w here (no ne) (yes less) e = here (from w less)
      past w here (no ne) (no out) e = let above = keeps v w looks here (omega arith) in omega arith

  pub renamed_small : (n : ℕ) → Knows k n → ((v : ℕ) → v ≤ 4094 → m v ≤ 4094) → IsSmall (renamed m (meaning k n))
  renamed_small n x small a b same = meaning_small k sound n x (λ w. a (m w)) (λ w. b (m w)) (λ u ge lt. let le = small u (omega arith) in same (m u) (omega arith) (omega arith))

-- a node's own variable is looked at, since its two parts differ
pub own_looks : (k : Words) → Sound k → (v n low high : ℕ) → low ≢ high → IsHalved k v n low high → ¬ IsFree v (meaning k n)
own_looks k sound v n low high ne is free = ne (meaning_same (is.low.1 ∙ fixed_same ∙ sym is.high.1))
  where
    fixed_same : fixed v false (meaning k n) ≡ fixed v true (meaning k n)
    fixed_same i a = (free false a ∙ sym (free true a)) i

    meaning_same : meaning k low ≡ meaning k high → low ≡ high
    meaning_same e = sound.one is.low.0.0 is.high.0.0 low high is.low.0.1 is.high.0.1 (λ a. ap (λ (φ : Function). φ a) (sym (meaning_tree k sound is.low.0.0 low is.low.0.1)) ∙ ap (λ (φ : Function). φ a) e ∙ ap (λ (φ : Function). φ a) (meaning_tree k sound is.high.0.0 high is.high.0.1))

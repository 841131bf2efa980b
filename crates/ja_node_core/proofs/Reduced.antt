-- Two reduced trees of one function are one tree.
use Rattle.std.proofs.Common.{◌≡◌, ◌≢◌, ℕ, zero, suc, ◌+◌, ◌<◌, ◌≤◌, Bool, true, false, refl, sym, ap, ◌∙◌, subst, arith, eq-eqb, ne_eqb}
use Rattle.std.specs.Prelude.{if◌then◌else◌, ◌==◌}
use native.Mathlib.Decide.{dec_lt}
use Rattle.ja_node_core.specs.Tree.{Tree, leaf, branch, Assignment, truth, IsSameFunction, IsAbove, IsReduced}

-- the assignment with one variable set
abbrev pub with_var : Assignment → ℕ → Bool → Assignment
with_var a v b u = (if u == v then b else a u)

pub with_var_here : (a : Assignment) (v : ℕ) (b : Bool) → with_var a v b v ≡ b
with_var_here a v b = ap (λ c. if c then b else a v) (eq-eqb v v refl)

pub with_var_other : (a : Assignment) (v : ℕ) (b : Bool) (u : ℕ) → u ≢ v → with_var a v b u ≡ a u
with_var_other a v b u ne = ap (λ c. if c then b else a u) (ne_eqb u v ne)

pub above_less : (v u : ℕ) (t : Tree) → v < u → IsAbove u t → IsAbove v t
above_less v u (leaf b) lt up = tt
above_less v u (branch w low high) lt up = omega arith

-- the function does not look at the variable
abbrev pub IsFree : ℕ → Tree → Type 0
IsFree v t = (b : Bool) (a : Assignment) → truth t (with_var a v b) ≡ truth t a

-- a reduced tree does not look at variables above its root
pub free_above : (v : ℕ) (t : Tree) → IsAbove v t → IsReduced t → IsFree v t
free_above v (leaf c) up r b a = refl
free_above v (branch u low high) up r b a =
    let root = with_var_other a v b u (λ e. omega arith) in
    let left = free_above v low (above_less v u low up r.1) r.3 b a in
    let right = free_above v high (above_less v u high up r.2) r.4 b a in
    λ i. if root i then right i else left i

-- the two children, as the function with the root's variable set
pub low_child : (v : ℕ) (low high : Tree) → IsReduced (branch v low high) → (a : Assignment) → truth (branch v low high) (with_var a v false) ≡ truth low a
low_child v low high r a = ap (λ c. if c then truth high (with_var a v false) else truth low (with_var a v false)) (with_var_here a v false) ∙ free_above v low r.1 r.3 false a

pub high_child : (v : ℕ) (low high : Tree) → IsReduced (branch v low high) → (a : Assignment) → truth (branch v low high) (with_var a v true) ≡ truth high a
high_child v low high r a = ap (λ c. if c then truth high (with_var a v true) else truth low (with_var a v true)) (with_var_here a v true) ∙ free_above v high r.2 r.4 true a

-- where the function is one that does not look at the root's variable, both children are one function
pub children_same : (v : ℕ) (low high s : Tree) → IsReduced (branch v low high) → IsFree v s → IsSameFunction s (branch v low high) → IsSameFunction low high
children_same v low high s r free same a =
    sym (low_child v low high r a) ∙ sym (same (with_var a v false)) ∙ free false a ∙ sym (free true a) ∙ same (with_var a v true) ∙ high_child v low high r a

size : Tree → ℕ
size (leaf b) = 1
size (branch v low high) = suc (size low + size high)

-- the claim for all trees that are together no larger than k
abbrev UpTo : ℕ → Type 0
UpTo k = (s t : Tree) → size s + size t ≤ k → IsReduced s → IsReduced t → IsSameFunction s t → s ≡ t

flip : (s t : Tree) → IsSameFunction s t → IsSameFunction t s
flip s t same a = sym (same a)

-- two branches of one function: neither root is above the other, and then the children are two pairs of one function
branches : (k : ℕ) → UpTo k → (v u : ℕ) (low high x y : Tree) → size (branch v low high) + size (branch u x y) ≤ suc k → IsReduced (branch v low high) → IsReduced (branch u x y)
    → IsSameFunction (branch v low high) (branch u x y) → Dec (v < u) → Dec (u < v) → branch v low high ≡ branch u x y
unfolding size
branches k upto v u low high x y le r q same (yes lt) d =
    absurd (r.0 (upto low high (omega arith) r.3 r.4 (children_same v low high (branch u x y) r (free_above v (branch u x y) lt q) (flip (branch v low high) (branch u x y) same))))
branches k upto v u low high x y le r q same (no m) (yes lt) =
    absurd (q.0 (upto x y (omega arith) q.3 q.4 (children_same u x y (branch v low high) q (free_above u (branch v low high) lt r) same)))
branches k upto v u low high x y le r q same (no m) (no o) =
    let root : v ≡ u = omega arith in
    let r' : IsReduced (branch u low high) = subst (λ w. IsReduced (branch w low high)) root r in
    let same' : IsSameFunction (branch u low high) (branch u x y) = subst (λ w. IsSameFunction (branch w low high) (branch u x y)) root same in
    let left = upto low x (omega arith) r.3 q.3 (λ a. sym (low_child u low high r' a) ∙ same' (with_var a u false) ∙ low_child u x y q a) in
    let right = upto high y (omega arith) r.4 q.4 (λ a. sym (high_child u low high r' a) ∙ same' (with_var a u true) ∙ high_child u x y q a) in
    λ i. branch (root i) (left i) (right i)

up_to : (k : ℕ) → UpTo k
unfolding size
up_to zero (leaf b) t le r q same = absurd (omega arith)
up_to zero (branch v low high) t le r q same = absurd (omega arith)
up_to (suc k) (leaf b) (leaf c) le r q same = ap leaf (same (λ u. false))
up_to (suc k) (leaf b) (branch u x y) le r q same = absurd (q.0 (up_to k x y (omega arith) q.3 q.4 (children_same u x y (leaf b) q (λ c a. refl) same)))
up_to (suc k) (branch v low high) (leaf c) le r q same = absurd (r.0 (up_to k low high (omega arith) r.3 r.4 (children_same v low high (leaf c) r (λ b a. refl) (flip (branch v low high) (leaf c) same))))
up_to (suc k) (branch v low high) (branch u x y) le r q same = branches k (up_to k) v u low high x y le r q same (dec_lt v u) (dec_lt u v)

pub same_tree : (s t : Tree) → IsReduced s → IsReduced t → IsSameFunction s t → s ≡ t
same_tree s t = up_to (size s + size t) s t (omega arith)

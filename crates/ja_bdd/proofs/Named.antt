-- Each function of the variables below 4095 has a reduced tree, and fixing its first variable keeps it of the aim.
use Rattle.std.proofs.Common.{◌≡◌, ◌≢◌, ℕ, zero, suc, ◌+◌, ◌<◌, ◌≤◌, Bool, true, false, refl, sym, ap, ◌∙◌, subst, arith}
use Rattle.std.specs.Prelude.{if◌then◌else◌}
use native.Mathlib.Decide.{ℕ_discrete, dec_lt}
use Rattle.ja_node_core.specs.Tree.{Tree, leaf, branch, Assignment, truth, IsAbove, IsReduced}
use Rattle.ja_node_core.proofs.Reduced.{with_var_other, same_tree, children_same}
use Rattle.ja_bdd.specs.Functions.{Function, with_var, fixed, chosen, IsFrom, IsTreeOf, IsAimed}
use Rattle.ja_bdd.proofs.Fixing.{with_cases, choice, from_fixed}

branch_dec : (v u : ℕ) (l h x y : Tree) → Dec (v ≡ u) → Dec (l ≡ x) → Dec (h ≡ y) → Dec (branch v l h ≡ branch u x y)
branch_dec v u l h x y (yes a) (yes b) (yes c) = yes (λ i. branch (a i) (b i) (c i))
branch_dec v u l h x y (no a) b c = no (λ e. a cc)
branch_dec v u l h x y (yes a) (no b) c = no (λ e. b cc)
branch_dec v u l h x y (yes a) (yes b) (no c) = no (λ e. c cc)

pub tree_dec : (s t : Tree) → Dec (s ≡ t)
tree_dec (leaf true) (leaf true) = yes refl
tree_dec (leaf false) (leaf false) = yes refl
tree_dec (leaf true) (leaf false) = no (λ e. cc)
tree_dec (leaf false) (leaf true) = no (λ e. cc)
tree_dec (leaf b) (branch u x y) = no (λ e. cc)
tree_dec (branch v l h) (leaf c) = no (λ e. cc)
tree_dec (branch v l h) (branch u x y) = branch_dec v u l h x y (ℕ_discrete v u) (tree_dec l x) (tree_dec h y)

-- the tree of a function that looks at variables above v only has its root there
pub tree_above : (v : ℕ) (t : Tree) → IsReduced t → IsFrom (suc v) (truth t) → IsAbove v t
tree_above v (leaf b) red from = tt
tree_above v (branch u low high) red from = at (dec_lt v u)
  where
    at : Dec (v < u) → v < u
    at (yes lt) = lt
    at (no not) = absurd (red.0 (same_tree low high red.3 red.4 (children_same u low high (branch u low high) red (from u (omega arith)) (λ a. refl))))

pub from_same : (v : ℕ) (φ ψ : Function) → ((a : Assignment) → φ a ≡ ψ a) → IsFrom v ψ → IsFrom v φ
from_same v φ ψ same from u lt b a = same (with_var a u b) ∙ from u lt b a ∙ sym (same a)

-- the tree of a choice between two functions of later variables
pub choice_tree : (v : ℕ) (φ ψ : Function) (s t : Tree) → IsFrom (suc v) φ → IsFrom (suc v) ψ → IsTreeOf φ s → IsTreeOf ψ t → s ≢ t → IsTreeOf (chosen v φ ψ) (branch v s t)
choice_tree v φ ψ s t f g s_is t_is ne = (
  (ne, tree_above v s s_is.0 (from_same (suc v) (truth s) φ s_is.1 f), tree_above v t t_is.0 (from_same (suc v) (truth t) ψ t_is.1 g), s_is.0, t_is.0),
  λ a i. if a v then t_is.1 a i else s_is.1 a i,
)

-- the function looks at the variables from v to v + m alone
abbrev pub LooksAt : ℕ → ℕ → Function → Type 0
LooksAt v m φ = (a b : Assignment) → ((u : ℕ) → v ≤ u → u < v + m → a u ≡ b u) → φ a ≡ φ b

abbrev pub IsSmall : Function → Type 0
IsSmall φ = LooksAt 0 4095 φ

looks_fixed : (v m : ℕ) (φ : Function) (c : Bool) → LooksAt v (suc m) φ → LooksAt (suc v) m (fixed v c φ)
looks_fixed v m φ c looks a b same = looks (with_var a v c) (with_var b v c) (λ u ge lt. with_cases a (with_var b v c) v c u
    (λ e. sym (with_cases b (λ w. c) v c u (λ is. refl) (λ ne. absurd (ne e))))
    (λ ne. same u (omega arith) (omega arith) ∙ sym (with_var_other b v c u ne)))

-- a function has a reduced tree, whose root is v or later
pub tree_from : (m v : ℕ) (φ : Function) → LooksAt v m φ → IsFrom v φ → (t : Tree) × IsTreeOf φ t
tree_from zero v φ looks from = (leaf (φ (λ u. false)), (tt, λ a. looks (λ u. false) a (λ u ge lt. absurd (omega arith))))
tree_from (suc m) v φ looks from =
    let low = tree_from m (suc v) (fixed v false φ) (looks_fixed v m φ false looks) (from_fixed v false φ from) in
    let high = tree_from m (suc v) (fixed v true φ) (looks_fixed v m φ true looks) (from_fixed v true φ from) in
    joined low high (tree_dec low.0 high.0)
  where
    joined : (low : (t : Tree) × IsTreeOf (fixed v false φ) t) (high : (t : Tree) × IsTreeOf (fixed v true φ) t) → Dec (low.0 ≡ high.0) → (t : Tree) × IsTreeOf φ t
    joined low high (yes e) = (low.0, (low.1.0, λ a. same a (a v) ∙ (λ i. choice v φ i a)))
      where
        same : (a : Assignment) (b : Bool) → truth low.0 a ≡ (if b then φ (with_var a v true) else φ (with_var a v false))
        same a true = ap (λ t. truth t a) e ∙ high.1.1 a
        same a false = low.1.1 a
    joined low high (no ne) = (
      branch v low.0 high.0,
      subst (λ ψ. IsTreeOf ψ (branch v low.0 high.0)) (choice v φ)
          (choice_tree v (fixed v false φ) (fixed v true φ) low.0 high.0 (from_fixed v false φ from) (from_fixed v true φ from) low.1 high.1 ne),
    )

pub tree_of : (φ : Function) → IsSmall φ → (t : Tree) × IsTreeOf φ t
tree_of φ small = tree_from 4095 0 φ small (λ u lt. absurd (omega arith))

-- what is asked of an aim
abbrev pub Falls : (Tree → Type 0) → Type 0
Falls aim = (v : ℕ) (low high : Tree) → aim (branch v low high) → aim low × aim high

pub small_fixed : (v : ℕ) (c : Bool) (φ : Function) → IsSmall φ → IsSmall (fixed v c φ)
small_fixed v c φ small a b same = small (with_var a v c) (with_var b v c) (λ u ge lt. with_cases a (with_var b v c) v c u
    (λ e. sym (with_cases b (λ w. c) v c u (λ is. refl) (λ ne. absurd (ne e))))
    (λ ne. same u ge lt ∙ sym (with_var_other b v c u ne)))

-- both parts of a function of the aim are of the aim
pub aimed_parts : (aim : Tree → Type 0) → Falls aim → (v : ℕ) (φ : Function) → IsSmall φ → IsFrom v φ → IsAimed aim φ → IsAimed aim (fixed v false φ) × IsAimed aim (fixed v true φ)
aimed_parts aim falls v φ small from aimed = (
  (λ t is. (parts t (tree_of (fixed v true φ) (small_fixed v true φ small)).0 is (tree_of (fixed v true φ) (small_fixed v true φ small)).1 (tree_dec _ _)).0),
  (λ t is. (parts (tree_of (fixed v false φ) (small_fixed v false φ small)).0 t (tree_of (fixed v false φ) (small_fixed v false φ small)).1 is (tree_dec _ _)).1),
)
  where
    parts : (s t : Tree) → IsTreeOf (fixed v false φ) s → IsTreeOf (fixed v true φ) t → Dec (s ≡ t) → aim s × aim t
    parts s t s_is t_is (yes e) =
        let whole : aim s = aimed s (s_is.0, λ a. same a (a v) ∙ (λ i. choice v φ i a)) in
        (whole, subst aim e whole)
      where
        same : (a : Assignment) (b : Bool) → truth s a ≡ (if b then φ (with_var a v true) else φ (with_var a v false))
        same a true = ap (λ r. truth r a) e ∙ t_is.1 a
        same a false = s_is.1 a
    parts s t s_is t_is (no ne) = falls v s t (aimed (branch v s t) (subst (λ ψ. IsTreeOf ψ (branch v s t)) (choice v φ)
        (choice_tree v (fixed v false φ) (fixed v true φ) s t (from_fixed v false φ from) (from_fixed v true φ from) s_is t_is ne)))

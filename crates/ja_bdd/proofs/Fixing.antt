-- Functions of which one variable is fixed.
use Rattle.std.proofs.Common.{◌≡◌, ◌≢◌, ℕ, suc, Bool, true, false, refl, sym, ap, ◌∙◌, subst, arith, eq-eqb}
use Rattle.std.specs.Prelude.{if◌then◌else◌, ◌||◌}
use mathlib.Core.Logic.{dite}
use native.Mathlib.Decide.{ℕ_discrete}
use Rattle.ja_node_core.specs.Tree.{Assignment}
use Rattle.ja_node_core.proofs.Reduced.{with_var_other}
use Rattle.ja_bdd.specs.Functions.{Function, with_var, fixed, forgotten, chosen, IsFree, IsFrom}

-- an assignment with a variable set, at each variable
pub with_cases : (a b : Assignment) (v : ℕ) (c : Bool) (u : ℕ) → (u ≡ v → c ≡ b u) → (u ≢ v → a u ≡ b u) → with_var a v c u ≡ b u
with_cases a b v c u here other = dite (ℕ_discrete u v)
    (λ e. ap (λ t. if t then c else a u) (eq-eqb u v e) ∙ here e)
    (λ ne. with_var_other a v c u ne ∙ other ne)

pub with_own : (a : Assignment) (v : ℕ) (b : Bool) → a v ≡ b → with_var a v b ≡ a
with_own a v b e i u = with_cases a a v b u (λ same. sym e ∙ ap a (sym same)) (λ ne. refl) i

pub with_twice : (a : Assignment) (v : ℕ) (b c : Bool) → with_var (with_var a v c) v b ≡ with_var a v b
with_twice a v b c i u = with_cases (with_var a v c) (with_var a v b) v b u (λ e. sym (ap (λ t. if t then b else a u) (eq-eqb u v e))) (λ ne. with_var_other a v c u ne ∙ sym (with_var_other a v b u ne)) i

pub with_swapped : (a : Assignment) (u v : ℕ) (b c : Bool) → u ≢ v → with_var (with_var a u c) v b ≡ with_var (with_var a v b) u c
with_swapped a u v b c apart i w = with_cases (with_var a u c) (with_var (with_var a v b) u c) v b w
    (λ e. sym (with_var_other (with_var a v b) u c w (λ is. apart (sym is ∙ e)) ∙ ap (λ t. if t then b else a w) (eq-eqb w v e)))
    (λ ne. with_cases a (with_var (with_var a v b) u c) u c w
    (λ e. sym (ap (λ t. if t then c else with_var a v b w) (eq-eqb w u e)))
    (λ other. sym (with_var_other (with_var a v b) u c w other ∙ with_var_other a v b w ne)))
    i

-- a function is chosen from its two parts
pub choice : (v : ℕ) (φ : Function) → chosen v (fixed v false φ) (fixed v true φ) ≡ φ
choice v φ i a = by_value (a v) refl i
  where
    by_value : (b : Bool) → a v ≡ b → (if b then φ (with_var a v true) else φ (with_var a v false)) ≡ φ a
    by_value true e = ap φ (with_own a v true e)
    by_value false e = ap φ (with_own a v false e)

-- a choice between one function
pub no_choice : (v : ℕ) (φ : Function) → chosen v φ φ ≡ φ
no_choice v φ i a = by_value (a v) i
  where
    by_value : (b : Bool) → (if b then φ a else φ a) ≡ φ a
    by_value true = refl
    by_value false = refl

pub fixed_free : (v : ℕ) (b : Bool) (φ : Function) → IsFree v φ → fixed v b φ ≡ φ
fixed_free v b φ free i a = free b a i

-- what is fixed is not looked at
pub free_fixed : (v : ℕ) (b : Bool) (φ : Function) → IsFree v (fixed v b φ)
free_fixed v b φ c a = ap φ (with_twice a v b c)

-- what is not looked at stays so
pub free_still : (u v : ℕ) (b : Bool) (φ : Function) → IsFree u φ → IsFree u (fixed v b φ)
free_still u v b φ free c a = dite (ℕ_discrete u v)
    (λ e. ap (λ w. φ (with_var (with_var a w c) v b)) e ∙ free_fixed v b φ c a)
    (λ ne. ap φ (with_swapped a u v b c ne) ∙ free c (with_var a v b))

pub from_fixed : (v : ℕ) (b : Bool) (φ : Function) → IsFrom v φ → IsFrom (suc v) (fixed v b φ)
from_fixed v b φ from u lt = dite (ℕ_discrete u v)
    (λ e. subst (λ w. IsFree w (fixed v b φ)) (sym e) (free_fixed v b φ))
    (λ ne. free_still u v b φ (from u (omega arith)))

-- a function of two others looks at no variable that neither looks at
pub free_op : (β : Bool → Bool → Bool) (u : ℕ) (φ ψ : Function) → IsFree u φ → IsFree u ψ → IsFree u (λ a. β (φ a) (ψ a))
free_op β u φ ψ f g c a i = β (f c a i) (g c a i)

pub from_op : (β : Bool → Bool → Bool) (v : ℕ) (φ ψ : Function) → IsFrom v φ → IsFrom v ψ → IsFrom v (λ a. β (φ a) (ψ a))
from_op β v φ ψ f g u lt = free_op β u φ ψ (f u lt) (g u lt)

-- forgetting a variable that is not looked at
pub forgotten_free : (w : ℕ) (φ : Function) → IsFree w φ → forgotten w φ ≡ φ
forgotten_free w φ free i a = (ap (λ b. b || φ (with_var a w true)) (free false a) ∙ ap (λ b. φ a || b) (free true a) ∙ self (φ a)) i
  where
    self : (b : Bool) → (b || b) ≡ b
    self true = refl
    self false = refl

-- forgetting goes through a variable that is fixed
pub forgotten_fixed : (w v : ℕ) (b : Bool) (φ : Function) → v ≢ w → forgotten w (fixed v b φ) ≡ fixed v b (forgotten w φ)
forgotten_fixed w v b φ ne i a = φ (with_swapped a w v b false (λ e. ne (sym e)) i) || φ (with_swapped a w v b true (λ e. ne (sym e)) i)

pub free_forgotten : (w u : ℕ) (φ : Function) → IsFree u φ → IsFree u (forgotten w φ)
free_forgotten w u φ free = free_op (λ b c. b || c) u (fixed w false φ) (fixed w true φ) (free_still u w false φ free) (free_still u w true φ free)

pub from_forgotten : (w v : ℕ) (φ : Function) → IsFrom v φ → IsFrom v (forgotten w φ)
from_forgotten w v φ from u lt = free_forgotten w u φ (from u lt)

-- What is asked of an aim goes down to the parts of a node, and why there is no room goes up.
use Rattle.std.proofs.Common.{◌≡◌, ◌≢◌, ℕ, suc, ◌≤◌, Bool, true, false, refl, sym, ap, ◌∙◌, subst, arith}
use Rattle.std.specs.Prelude.{◌&&◌, not}
use Rattle.std.proofs.lemmas.Bool.{and_parts}
use mathlib.Core.Logic.{dite}
use native.Mathlib.Decide.{ℕ_discrete}
use Rattle.ja_node_core.specs.Tree.{Tree, Assignment}
use Rattle.ja_node_core.proofs.Reduced.{with_var_here, with_var_other}
use Rattle.ja_bdd.specs.Functions.{Function, with_var, fixed, IsFree, IsFrom, IsAimed}
use Rattle.ja_bdd.proofs.Named.{IsSmall, Falls, aimed_parts}
use Rattle.ja_join.specs.Steps.{IsBelow, IsLow, IsWithin, within, fixing}
use Rattle.ja_join.specs.Inner.{AreAimed}

pub low_small : (φ : Function) → IsLow φ → IsSmall φ
low_small φ low a b same = low a b (λ u le. same u (omega arith) (omega arith))

pub small_low : (φ : Function) → IsSmall φ → IsLow φ
small_low φ small a b same = small a b (λ u ge lt. same u (omega arith))

-- the truth, or its negation
is : Bool → Bool → Bool
is true b = b
is false b = not b

is_same : (c b : Bool) → is c b ≡ true → b ≡ c
unfolding is
is_same true b e = e
is_same false true e = sym e
is_same false false e = refl

is_own : (c : Bool) → is c c ≡ true
unfolding is
is_own true = refl
is_own false = refl

-- the function where a variable has a value, and else false
narrowed : ℕ → Bool → Function → Function
narrowed v c ψ a = is c (a v) && ψ a

-- what is asked of an aim for a function goes down to a part of it, where a variable has a value
module _ (aim : Tree → Type 0) (falls : Falls aim) (w v : ℕ) (c : Bool) (none none' : ℕ → Type 0) (χ χ' : Function) (le : w ≤ v) (small : v ≤ 4094)
    (looks : none v → ⊥) (parts : (u : ℕ) → u ≢ v → none u → none' u) (below : (a : Assignment) → a v ≡ c → χ' a ≡ true → χ a ≡ true) where
  pub child_aimed : AreAimed aim none w χ → AreAimed aim none' (suc v) χ'
  unfolding narrowed
  child_aimed aimed ψ low from free under = subst (IsAimed aim) narrow_fixed (pick c (aimed_parts aim falls v (narrowed v c ψ) (low_small (narrowed v c ψ) narrow_low) narrow_from whole))
    where
      narrow_free : (u : ℕ) → u ≢ v → IsFree u ψ → IsFree u (narrowed v c ψ)
      narrow_free u ne same b a i = is c (with_var_other a u b v (λ e. ne (sym e)) i) && same b a i

      narrow_low : IsLow (narrowed v c ψ)
      narrow_low a b agree i = is c (agree v small i) && low a b agree i

      narrow_from : IsFrom v (narrowed v c ψ)
      narrow_from u lt = narrow_free u (λ e. absurd (omega arith)) (from u (omega arith))

      whole : IsAimed aim (narrowed v c ψ)
      whole = aimed (narrowed v c ψ) narrow_low
          (λ u lt. narrow_free u (λ e. absurd (omega arith)) (from u (omega arith)))
          (λ u out. dite (ℕ_discrete u v)
          (λ e. absurd (looks (subst none e out)))
          (λ ne. narrow_free u ne (free u (parts u ne out))))
          (λ a t. let both = and_parts (is c (a v)) (ψ a) t in below a (is_same c (a v) both.0) (under a both.1))

      narrow_fixed : fixed v c (narrowed v c ψ) ≡ ψ
      narrow_fixed i a = (ap (λ b. is c b && ψ (with_var a v c)) (with_var_here a v c) ∙ ap (λ b. b && ψ (with_var a v c)) (is_own c) ∙ from v (omega arith) c a) i

      pick : (b : Bool) → IsAimed aim (fixed v false (narrowed v c ψ)) × IsAimed aim (fixed v true (narrowed v c ψ)) → IsAimed aim (fixed v b (narrowed v c ψ))
      pick true both = both.1
      pick false both = both.0

-- a smaller function of fewer variables asks for less
pub less_aimed : (aim : Tree → Type 0) (none none' : ℕ → Type 0) (w : ℕ) (χ χ' : Function) → ((u : ℕ) → none u → none' u) → IsBelow χ' χ → AreAimed aim none w χ → AreAimed aim none' w χ'
less_aimed aim none none' w χ χ' more under aimed ψ low from free below = aimed ψ low from (λ u out. free u (more u out)) (λ a t. under a (below a t))

-- what is asked from an earlier variable on is enough
pub later_aimed : (aim : Tree → Type 0) (none : ℕ → Type 0) (w v : ℕ) (χ : Function) → w ≤ v → AreAimed aim none w χ → AreAimed aim none v χ
later_aimed aim none w v χ le aimed ψ low from free below = aimed ψ low (λ u lt. from u (omega arith)) free below

below_fixed : (v : ℕ) (b : Bool) (χ χ' : Function) → IsBelow χ χ' → IsBelow (fixed v b χ) (fixed v b χ')
below_fixed v b χ χ' under a t = under (with_var a v b) t

-- what lies within a function lies within a larger one
pub within_more : (χ ψ χ' : Function) → IsWithin χ ψ → IsBelow χ χ' → IsWithin χ' ψ
within_more χ ψ χ' (within _ _ below) under = within χ' ψ (λ a t. under a (below a t))
within_more χ ψ χ' (fixing v b _ _ inner) under = fixing v b χ' ψ (within_more (fixed v b χ) ψ (fixed v b χ') inner (below_fixed v b χ χ' under))

-- what lies within a part of a function lies within the function
pub child_within : (v : ℕ) (c : Bool) (χ χ' ψ : Function) → IsFree v χ' → ((a : Assignment) → a v ≡ c → χ' a ≡ true → χ a ≡ true) → IsWithin χ' ψ → IsWithin χ ψ
child_within v c χ χ' ψ free below inner = fixing v c χ ψ (within_more χ' ψ (fixed v c χ) inner (λ a t. below (with_var a v c) (with_var_here a v c) (free c a ∙ t)))

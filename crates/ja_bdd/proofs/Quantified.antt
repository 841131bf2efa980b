-- What forgetting many variables makes of a function and of its parts.
use Rattle.std.proofs.Common.{◌≡◌, ◌≢◌, ℕ, zero, suc, ◌<◌, ◌≤◌, max, ◌||◌, Bool, true, false, refl, sym, ap, ◌∙◌, subst, arith}
use Rattle.std.proofs.lemmas.Bool.{false≢true}
use mathlib.Core.Logic.{dite}
use native.Mathlib.Decide.{ℕ_discrete, dec_lt}
use Rattle.ja_node_core.specs.Tree.{Tree, Assignment}
use Rattle.ja_node_core.proofs.Reduced.{with_var_here, with_var_other}
use Rattle.ja_bdd.specs.Functions.{Function, with_var, fixed, forgotten, either, IsFree, IsFrom, IsAimed}
use Rattle.ja_bdd.specs.Meaning.{with_below}
use Rattle.ja_bdd.specs.Copies.{forgotten_if, forgotten_below, all_forgotten, fixed_below, IsAimedThroughout}
use Rattle.ja_bdd.proofs.Fixing.{with_cases, with_swapped, free_fixed, free_op, forgotten_free, forgotten_fixed, free_forgotten}
use Rattle.ja_bdd.proofs.Named.{IsSmall, small_fixed}
use Rattle.ja_bdd.proofs.Parts.{from_below, below_cases, below_here, below_past}

if_fixed : (goes : Bool) (n v : ℕ) (b : Bool) (φ : Function) → (goes ≡ true → v ≢ n) → forgotten_if goes n (fixed v b φ) ≡ fixed v b (forgotten_if goes n φ)
if_fixed true n v b φ ne = forgotten_fixed n v b φ (ne refl)
if_fixed false n v b φ ne = refl

or_swapped : (p q r s : Bool) → ((p || q) || (r || s)) ≡ ((p || r) || (q || s))
or_swapped true q true s = refl
or_swapped true q false s = refl
or_swapped false true true s = refl
or_swapped false true false s = refl
or_swapped false false true s = refl
or_swapped false false false s = refl

if_either : (goes : Bool) (n : ℕ) (φ ψ : Function) → forgotten_if goes n (either φ ψ) ≡ either (forgotten_if goes n φ) (forgotten_if goes n ψ)
if_either true n φ ψ i a = or_swapped (φ (with_var a n false)) (ψ (with_var a n false)) (φ (with_var a n true)) (ψ (with_var a n true)) i
if_either false n φ ψ i a = either φ ψ a

-- two variables are forgotten in any order
forgotten_swapped : (v n : ℕ) (φ : Function) → forgotten n (forgotten v φ) ≡ forgotten v (forgotten n φ)
forgotten_swapped v n φ = dite (ℕ_discrete n v)
    (λ e. (λ i. forgotten (e i) (forgotten (sym e i) φ)))
    (λ ne. (λ i a. (or_swapped (φ (with_var (with_var a n false) v false)) (φ (with_var (with_var a n false) v true)) (φ (with_var (with_var a n true) v false)) (φ (with_var (with_var a n true) v true))
    ∙ (λ j. (φ (with_swapped a n v false false ne j) || φ (with_swapped a n v false true ne j)) || (φ (with_swapped a n v true false ne j) || φ (with_swapped a n v true true ne j)))) i))

if_swapped : (goes : Bool) (v n : ℕ) (φ : Function) → forgotten_if goes n (forgotten v φ) ≡ forgotten v (forgotten_if goes n φ)
if_swapped true v n φ = forgotten_swapped v n φ
if_swapped false v n φ = refl

if_free : (goes : Bool) (n : ℕ) (φ : Function) → (goes ≡ true → IsFree n φ) → forgotten_if goes n φ ≡ φ
if_free true n φ free = forgotten_free n φ (free refl)
if_free false n φ free = refl

free_if : (goes : Bool) (n u : ℕ) (φ : Function) → IsFree u φ → IsFree u (forgotten_if goes n φ)
free_if true n u φ free = free_forgotten n u φ free
free_if false n u φ free = free

-- what is forgotten is not looked at
free_own : (goes : Bool) (n : ℕ) (φ : Function) → goes ≡ true → IsFree n (forgotten_if goes n φ)
free_own true n φ is = free_op (λ b c. b || c) n (fixed n false φ) (fixed n true φ) (free_fixed n false φ) (free_fixed n true φ)
free_own false n φ is = absurd (false≢true is)

small_if : (goes : Bool) (n : ℕ) (φ : Function) → IsSmall φ → IsSmall (forgotten_if goes n φ)
small_if true n φ small a b same = (λ i. small_fixed n false φ small a b same i || small_fixed n true φ small a b same i)
small_if false n φ small a b same = small a b same

module _ (goes : ℕ → Bool) where
  below_fixed : (n v : ℕ) (b : Bool) (φ : Function) → goes v ≡ false → forgotten_below n goes (fixed v b φ) ≡ fixed v b (forgotten_below n goes φ)
  unfolding forgotten_below
  below_fixed zero v b φ stays = refl
  below_fixed (suc n) v b φ stays = ap (forgotten_if (goes n) n) (below_fixed n v b φ stays)
      ∙ if_fixed (goes n) n v b (forgotten_below n goes φ) (λ on e. false≢true (sym stays ∙ ap goes e ∙ on))

  below_either : (n : ℕ) (φ ψ : Function) → forgotten_below n goes (either φ ψ) ≡ either (forgotten_below n goes φ) (forgotten_below n goes ψ)
  unfolding forgotten_below
  below_either zero φ ψ = refl
  below_either (suc n) φ ψ = ap (forgotten_if (goes n) n) (below_either n φ ψ) ∙ if_either (goes n) n (forgotten_below n goes φ) (forgotten_below n goes ψ)

  below_swapped : (n v : ℕ) (φ : Function) → forgotten_below n goes (forgotten v φ) ≡ forgotten v (forgotten_below n goes φ)
  unfolding forgotten_below
  below_swapped zero v φ = refl
  below_swapped (suc n) v φ = ap (forgotten_if (goes n) n) (below_swapped n v φ) ∙ if_swapped (goes n) v n (forgotten_below n goes φ)

  below_gone : (n v : ℕ) (φ : Function) → goes v ≡ true → v < n → IsFree v (forgotten_below n goes φ)
  unfolding forgotten_below
  below_gone zero v φ on lt = absurd (omega arith)
  below_gone (suc n) v φ on lt = dite (ℕ_discrete v n)
      (λ e. subst (λ u. IsFree u (forgotten_if (goes n) n (forgotten_below n goes φ))) (sym e) (free_own (goes n) n (forgotten_below n goes φ) (ap goes (sym e) ∙ on)))
      (λ ne. free_if (goes n) n v (forgotten_below n goes φ) (below_gone n v φ on (omega arith)))

  below_free : (n : ℕ) (φ : Function) → ((u : ℕ) → IsFree u φ) → forgotten_below n goes φ ≡ φ
  unfolding forgotten_below
  below_free zero φ free = refl
  below_free (suc n) φ free = ap (forgotten_if (goes n) n) (below_free n φ free) ∙ if_free (goes n) n φ (λ on. free n)

  free_still_below : (n u : ℕ) (φ : Function) → IsFree u φ → IsFree u (forgotten_below n goes φ)
  unfolding forgotten_below
  free_still_below zero u φ free = free
  free_still_below (suc n) u φ free = free_if (goes n) n u (forgotten_below n goes φ) (free_still_below n u φ free)

  below_small : (n : ℕ) (φ : Function) → IsSmall φ → IsSmall (forgotten_below n goes φ)
  unfolding forgotten_below
  below_small zero φ small = small
  below_small (suc n) φ small = small_if (goes n) n (forgotten_below n goes φ) (below_small n φ small)

  -- where a variable stays, what is left of a part is the part of what is left
  pub left_fixed : (v : ℕ) (b : Bool) (φ : Function) → goes v ≡ false → all_forgotten goes (fixed v b φ) ≡ fixed v b (all_forgotten goes φ)
  unfolding all_forgotten
  left_fixed v b φ stays = below_fixed 4095 v b φ stays

  -- where a variable goes, what is left is what is left of either part
  pub left_either : (v : ℕ) (φ : Function) → goes v ≡ true → v ≤ 4094 → either (all_forgotten goes (fixed v false φ)) (all_forgotten goes (fixed v true φ)) ≡ all_forgotten goes φ
  unfolding all_forgotten
  left_either v φ on le = sym (below_either 4095 (fixed v false φ) (fixed v true φ)) ∙ below_swapped 4095 v φ ∙ forgotten_free v (forgotten_below 4095 goes φ) (below_gone 4095 v φ on (omega arith))

  pub left_free : (φ : Function) → ((u : ℕ) → IsFree u φ) → all_forgotten goes φ ≡ φ
  unfolding all_forgotten
  left_free φ free = below_free 4095 φ free

  pub left_from : (v : ℕ) (φ : Function) → IsFrom v φ → IsFrom v (all_forgotten goes φ)
  unfolding all_forgotten
  left_from v φ from u lt = free_still_below 4095 u φ (from u lt)

  pub left_small : (φ : Function) → IsSmall φ → IsSmall (all_forgotten goes φ)
  unfolding all_forgotten
  left_small φ small = below_small 4095 φ small

-- nothing is fixed below the first variable
pub fixed_none : (below : Assignment) (φ : Function) → fixed_below 0 below φ ≡ φ
fixed_none below φ i a = φ (λ u. below_past 0 below a u (omega arith) i)

-- a part of a function that looks at no variable below v, where the variables below w are fixed
pub part_fixed : (v w : ℕ) (b : Bool) (below : Assignment) (φ : Function) → IsFrom v φ → fixed_below w below (fixed v b φ) ≡ fixed_below (max w (suc v)) (with_var below v b) φ
part_fixed v w b below φ from = dite (dec_lt v w)
    (λ lt. (λ i a. φ (λ u. less lt a u i)))
    (λ not. (λ i a. (sym (from_below v φ from below (with_var (with_below w below a) v b)) ∙ ap φ (λ j u. more (omega arith) a u j)) i))
  where
    m : ℕ
    m = max w (suc v)

    less : v < w → (a : Assignment) (u : ℕ) → with_var (with_below w below a) v b u ≡ with_below m (with_var below v b) a u
    less lt a u = with_cases (with_below w below a) (with_below m (with_var below v b) a) v b u
        (λ e. sym (below_here m (with_var below v b) a u (omega arith) ∙ ap (with_var below v b) e ∙ with_var_here below v b))
        (λ ne. below_cases m (with_var below v b) a u (with_below w below a u)
        (λ under. below_here w below a u (omega arith) ∙ sym (with_var_other below v b u ne))
        (λ past. below_past w below a u (omega arith)))

    more : w ≤ v → (a : Assignment) (u : ℕ) → with_below v below (with_var (with_below w below a) v b) u ≡ with_below m (with_var below v b) a u
    more le a u = below_cases m (with_var below v b) a u (with_below v below (with_var (with_below w below a) v b) u)
        (λ under. dite (dec_lt u v)
        (λ lt. below_here v below (with_var (with_below w below a) v b) u lt ∙ sym (with_var_other below v b u (λ e. omega arith)))
        (λ not.
        let here : u ≡ v = omega arith in
        below_past v below (with_var (with_below w below a) v b) u (omega arith) ∙ ap (with_var (with_below w below a) v b) here ∙ with_var_here (with_below w below a) v b
        ∙ sym (ap (with_var below v b) here ∙ with_var_here below v b)))
        (λ past. below_past v below (with_var (with_below w below a) v b) u (omega arith) ∙ with_var_other (with_below w below a) v b u (λ e. omega arith) ∙ below_past w below a u (omega arith))

module _ (aim : Tree → Type 0) (goes : ℕ → Bool) (φ : Function) (aimed : IsAimedThroughout aim goes φ) where
  -- the whole is of the aim
  pub throughout_whole : IsAimed aim (all_forgotten goes φ)
  throughout_whole = subst (λ ψ. IsAimed aim (all_forgotten goes ψ)) (fixed_none (λ u. false) φ) (aimed 0 (λ u. false))

  -- and so it is for a part
  pub throughout_part : (v : ℕ) (b : Bool) → IsFrom v φ → IsAimedThroughout aim goes (fixed v b φ)
  throughout_part v b from w below = subst (λ ψ. IsAimed aim (all_forgotten goes ψ)) (sym (part_fixed v w b below φ from)) (aimed (max w (suc v)) (with_var below v b))

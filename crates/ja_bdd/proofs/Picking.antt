-- An assignment that makes a part of a node true makes the node true.
use Rattle.std.proofs.Common.{◌≡◌, ℕ, Bool, true, sym, ap, ◌∙◌, subst}
use Rattle.ja_node_core.specs.Tree.{Assignment}
use Rattle.ja_node_core.specs.Node.{Words}
use Rattle.ja_node_core.proofs.Reduced.{with_var_here, with_var_other}
use Rattle.ja_bdd.specs.Functions.{Function, with_var, fixed, IsFree}
use Rattle.ja_bdd.specs.Meaning.{meaning, IsMeant}
use Rattle.ja_bdd.proofs.Fixing.{with_own, free_fixed, free_still}

module _ (k : Words) (v n c : ℕ) (b : Bool) (is : IsMeant k c (fixed v b (meaning k n))) (before set after : Assignment)
    (sets : (u : ℕ) → set u ≡ with_var before v b u) (others : (u : ℕ) → IsFree u (meaning k c) → after u ≡ set u) where
  -- the variable itself stays as it was set
  kept : after v ≡ b
  kept = others v (subst (IsFree v) (sym is.1) (free_fixed v b (meaning k n))) ∙ sets v ∙ with_var_here before v b

  pub picked_whole : meaning k c after ≡ true → meaning k n after ≡ true
  picked_whole holds = sym (ap (meaning k n) (with_own after v b kept)) ∙ ap (λ (φ : Function). φ after) (sym is.1) ∙ holds

  pub picked_others : ¬ IsFree v (meaning k n) → (u : ℕ) → IsFree u (meaning k n) → after u ≡ before u
  picked_others looks u free =
      others u (subst (IsFree u) (sym is.1) (free_still u v b (meaning k n) free)) ∙ sets u
      ∙ with_var_other before v b u (λ e. looks (subst (λ w. IsFree w (meaning k n)) e free))

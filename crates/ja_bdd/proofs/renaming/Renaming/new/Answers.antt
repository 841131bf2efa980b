use Rattle.std.proofs.Common.{◌≤◌, refl, sym, ◌∙◌, length-set, subst, arith}
use Rattle.std.proofs.lemmas.List.{get_or-replicate}
use Rattle.ja_bdd.proofs.Partners.{put_small, put_own}
use Rattle.ja_bdd.proofs.renaming.Renaming.new.Goals as goal

pub loop-var-init : goal.loop-var-init
loop-var-init c = (refl, (λ k d lt. subst (λ x. x ≤ 4094) (sym (get_or-replicate 4095 k 0 d lt)) (omega arith)), (λ v lt. absurd (omega arith)))

pub loop-var-preserved : goal.loop-var-preserved
loop-var-preserved c =
    let long = c.loop-var.invariant.0 in
    let small = c.loop-var.invariant.1 in
    let own = c.loop-var.invariant.2 in
    let lt = c.loop-var-test.true in (
      length-set c.loop-var.partners c.loop-var.var _ ∙ long,
      put_small c.loop-var.partners c.loop-var.var c.loop-var.var small (omega arith),
      put_own c.loop-var.partners c.loop-var.var (omega arith) own,
    )

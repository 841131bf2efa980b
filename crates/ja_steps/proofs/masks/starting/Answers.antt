use Rattle.std.proofs.Common.{arith, ℕ, sym, ap, ◌∙◌, subst, ◌≡◌, ◌+◌}
use Rattle.std.specs.Prelude.{◌&&◌, nat_lt}
use Rattle.ja_steps.specs.Inner.{has, is_same, is_any}
use Rattle.ja_steps.proofs.Masking.{more_set, more_unset}
use Rattle.ja_steps.proofs.masks.starting.Goals as goal
use Rattle.ja_steps.proofs.masks.starting.Goals.{then-is_same, else-is_same}

pub loop-case-preserved : goal.loop-case-preserved
loop-case-preserved c =
    let P = λ (k : ℕ). is_same c.args.any (is_any k) in
    let at = c.loop-case.case in
    let is = sym (c.is_same.ensures ∙ ap (is_same c.args.any) c.is_any.ensures) in
    let lt = c.loop-case-test.true in
    elim c.if-is_same.branch [
      | then-is_same w ↦ subst (λ m. (k : ℕ) → has m k ≡ (nat_lt k (at + 1) && P k)) (sym w.mask-is) (more_set c.loop-case.mask at P c.loop-case.invariant (omega (arith, lt, c.requires)) (is ∙ w.if-is_same.true))
      | else-is_same w ↦ subst (λ m. (k : ℕ) → has m k ≡ (nat_lt k (at + 1) && P k)) (sym w.mask-is) (more_unset c.loop-case.mask at P c.loop-case.invariant (is ∙ w.if-is_same.false))
    ]

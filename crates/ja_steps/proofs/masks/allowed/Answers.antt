use Rattle.std.proofs.Common.{arith, ℕ, sym, ◌∙◌, subst, ◌≡◌, ◌+◌}
use Rattle.std.specs.Prelude.{◌&&◌, nat_lt}
use Rattle.ja_steps.specs.Inner.{has, allows_in}
use Rattle.ja_steps.proofs.Masking.{more_set, more_unset}
use Rattle.ja_steps.proofs.masks.allowed.Goals as goal
use Rattle.ja_steps.proofs.masks.allowed.Goals.{then-allows_in, else-allows_in}

pub loop-case-preserved : goal.loop-case-preserved
loop-case-preserved c =
    let P = λ (k : ℕ). allows_in c.args.sources.now c.args.part.now k c.args.before c.args.after in
    let at = c.loop-case.case in
    let is = sym c.allows_in.ensures in
    let lt = c.loop-case-test.true in
    elim c.if-allows_in.branch [
      | then-allows_in w ↦ subst (λ m. (k : ℕ) → has m k ≡ (nat_lt k (at + 1) && P k)) (sym w.mask-is) (more_set c.loop-case.mask at P c.loop-case.invariant (omega (arith, lt, c.requires)) (is ∙ w.if-allows_in.true))
      | else-allows_in w ↦ subst (λ m. (k : ℕ) → has m k ≡ (nat_lt k (at + 1) && P k)) (sym w.mask-is) (more_unset c.loop-case.mask at P c.loop-case.invariant (is ∙ w.if-allows_in.false))
    ]

use Rattle.std.proofs.Common.{◌≡◌, ◌+◌, ◌-◌, suc, inl, inr, arith}
use Rattle.std.proofs.lemmas.Result.{err_from_is_err_and}
use Rattle.std.specs.Prelude.{⊤}
use Rattle.ja_attributes.specs.Faults.{any_attribute, any_attributes}
use Rattle.ja_attributes.specs.InnerSteps.{onward}
use Rattle.ja_attributes.proofs.Completes.{fold_start, fold_step, fold_stop, fold_done}
use Rattle.ja_attributes.proofs.Exact.{any_attribute_exact}
use Rattle.ja_attributes.proofs.Heads.{u2_within, stays_within}
use Rattle.ja_attributes.proofs.skip.any_attributes.Goals as goal

pub returns-in_err-count : goal.returns-in_err-count
unfolding any_attributes
returns-in_err-count c =
    let p = err_from_is_err_and c.from_residual.result c.from_residual.ensures.1 in
    rw (p.1, p.2) (inl c.in_err-count.ensures)

pub loop-done-init : goal.loop-done-init
loop-done-init c = (
  u2_within c.args.base c.args.c.now c.two_bytes.new.c c.in_ok-count.count c.requires c.in_ok-count.ensures,
  fold_start (λ _. any_attribute c.args.pool.now) c.in_ok-count.count _ tt (onward c.args.base c.two_bytes.new.c) (omega arith),
)

pub any_attribute-requires : goal.any_attribute-requires
any_attribute-requires c = c.loop-done.invariant.0

pub returns-in_err-any_attribute : goal.returns-in_err-any_attribute
unfolding any_attributes
returns-in_err-any_attribute c =
    let p = err_from_is_err_and c.from_residual-in_err-any_attribute.result c.from_residual-in_err-any_attribute.ensures.1 in
    let one : c.in_ok-count.count - c.loop-done._done ≡ suc (c.in_ok-count.count - c.loop-done._done - 1) = omega arith in
    rw (p.1, p.2)
    (inr (
      c.in_ok-count.count,
      onward c.args.base c.two_bytes.new.c,
      c.in_ok-count.ensures,
      fold_stop (λ (u : ⊤). u) _ (onward c.args.base c.two_bytes.new.c) (λ _. any_attribute c.args.pool.now) (onward c.args.base c.loop-done.c) _ _ tt one c.loop-done.invariant.1
          c.in_err-any_attribute.field-0.0 c.in_err-any_attribute.ensures,
    ))

pub loop-done-preserved : goal.loop-done-preserved
loop-done-preserved c =
    let one : c.in_ok-count.count - c.loop-done._done ≡ suc (c.in_ok-count.count - (c.loop-done._done + 1)) = omega arith in (
      stays_within c.args.base c.loop-done.c c.any_attribute.new.c c.loop-done.invariant.0
          ((any_attribute_exact c.args.pool.now).forward (onward c.args.base c.loop-done.c) tt (onward c.args.base c.any_attribute.new.c) c.in_ok-any_attribute.ensures),
      fold_step (λ (u : ⊤). u) _ (onward c.args.base c.two_bytes.new.c) (λ _. any_attribute c.args.pool.now) (onward c.args.base c.loop-done.c) _ _ tt one c.loop-done.invariant.1
          tt (onward c.args.base c.any_attribute.new.c) c.in_ok-any_attribute.ensures,
    )

pub returns : goal.returns
unfolding any_attributes
returns c = (
  c.in_ok-count.count,
  onward c.args.base c.two_bytes.new.c,
  c.in_ok-count.ensures,
  fold_done (λ (u : ⊤). u) _ (onward c.args.base c.two_bytes.new.c) (λ _. any_attribute c.args.pool.now) (onward c.args.base c.loop-done.c) _ tt (omega arith) c.loop-done.invariant.1,
)

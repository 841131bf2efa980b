use Rattle.std.proofs.Common.{◌≡◌, ℕ, ◌+◌, ◌-◌, suc, inl, inr, arith}
use Rattle.std.proofs.lemmas.Result.{err_from_is_err_and}
use Rattle.std.specs.Prelude.{Option, None, Ok, Err}
use Rattle.ja_attributes.specs.declared.fault.AttributeFault.TheVariants.{End}
use Rattle.ja_attributes.specs.Faults.{field_attribute, field_attributes}
use Rattle.ja_attributes.specs.Part.{u2}
use Rattle.ja_attributes.proofs.Completes.{fold_start, fold_step, fold_stop, fold_done}
use Rattle.ja_attributes.proofs.Heads.{start_reads}
use Rattle.ja_attributes.proofs.field.all_attributes.Goals as goal

pub two_bytes-requires : goal.two_bytes-requires
two_bytes-requires c = λ some. absurd (omega (arith, some))

pub returns-in_err-count : goal.returns-in_err-count
unfolding field_attributes
returns-in_err-count c =
    let p = err_from_is_err_and c.from_residual.result c.from_residual.ensures.1 in
    rw (p.1, p.2) (inl (start_reads (λ (n : ℕ). n) (u2 End) c.args.c.now c.two_bytes.new.c (Err c.in_err-count.field-0.0) c.in_err-count.ensures))

pub loop-done-init : goal.loop-done-init
loop-done-init c = fold_start (field_attribute c.args.pool.now) c.in_ok-count.count _ None c.two_bytes.new.c (omega arith)

pub returns-in_err-found : goal.returns-in_err-found
unfolding field_attributes
returns-in_err-found c =
    let p = err_from_is_err_and c.from_residual-in_err-found.result c.from_residual-in_err-found.ensures.1 in
    let one : c.in_ok-count.count - c.loop-done._done ≡ suc (c.in_ok-count.count - c.loop-done._done - 1) = omega arith in
    rw (p.1, p.2)
    (inr (
      c.in_ok-count.count,
      c.two_bytes.new.c,
      start_reads (λ (n : ℕ). n) (u2 End) c.args.c.now c.two_bytes.new.c (Ok c.in_ok-count.count) c.in_ok-count.ensures,
      fold_stop (λ (x : Option ℕ). x) _ c.two_bytes.new.c (field_attribute c.args.pool.now) c.loop-done.c _ _ c.loop-done.found one c.loop-done.invariant c.in_err-found.field-0.0 c.in_err-found.ensures,
    ))

pub loop-done-preserved : goal.loop-done-preserved
loop-done-preserved c =
    let one : c.in_ok-count.count - c.loop-done._done ≡ suc (c.in_ok-count.count - (c.loop-done._done + 1)) = omega arith in
    fold_step (λ (x : Option ℕ). x) _ c.two_bytes.new.c (field_attribute c.args.pool.now) c.loop-done.c _ _ c.loop-done.found one c.loop-done.invariant _ c.field_attribute.new.c c.in_ok-found.ensures

pub returns : goal.returns
unfolding field_attributes
returns c = (
  c.in_ok-count.count,
  c.two_bytes.new.c,
  start_reads (λ (n : ℕ). n) (u2 End) c.args.c.now c.two_bytes.new.c (Ok c.in_ok-count.count) c.in_ok-count.ensures,
  fold_done (λ (x : Option ℕ). x) _ c.two_bytes.new.c (field_attribute c.args.pool.now) c.loop-done.c _ c.loop-done.found (omega arith) c.loop-done.invariant,
)

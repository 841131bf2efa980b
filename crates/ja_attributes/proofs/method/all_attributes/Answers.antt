use Rattle.std.proofs.Common.{◌≡◌, ℕ, ◌+◌, ◌-◌, suc, inl, inr, arith}
use Rattle.std.proofs.lemmas.Result.{err_from_is_err_and}
use Rattle.std.specs.Prelude.{Ok, Err}
use Rattle.ja_attributes.specs.declared.fault.AttributeFault.TheVariants.{End}
use Rattle.ja_attributes.specs.declared.method.Codes.{Codes}
use Rattle.ja_attributes.specs.declared.method.Codes.TheVariants.{Absent}
use Rattle.ja_attributes.specs.Faults.{method_attribute, method_attributes}
use Rattle.ja_attributes.specs.Part.{u2}
use Rattle.ja_attributes.proofs.Completes.{fold_start, fold_step, fold_stop, fold_done}
use Rattle.ja_attributes.proofs.Heads.{start_reads}
use Rattle.ja_attributes.proofs.Codes.{or_later, methods_due}
use Rattle.ja_attributes.proofs.method.all_attributes.Goals as goal

pub two_bytes-requires : goal.two_bytes-requires
two_bytes-requires c = λ some. absurd (omega (arith, some))

pub returns-in_err-count : goal.returns-in_err-count
unfolding method_attributes
returns-in_err-count c =
    let p = err_from_is_err_and c.from_residual.result c.from_residual.ensures.1 in
    rw (p.1, p.2) (inr (inl (start_reads (λ (n : ℕ). n) (u2 End) c.args.c.now c.two_bytes.new.c (Err c.in_err-count.field-0.0) c.in_err-count.ensures)))

pub loop-done-init : goal.loop-done-init
loop-done-init c = fold_start (method_attribute c.args.pool.now) c.in_ok-count.count _ Absent c.two_bytes.new.c (omega arith)

pub returns-in_err-found : goal.returns-in_err-found
unfolding method_attributes
returns-in_err-found c =
    let p = err_from_is_err_and c.from_residual-in_err-found.result c.from_residual-in_err-found.ensures.1 in
    let one : c.in_ok-count.count - c.loop-done._done ≡ suc (c.in_ok-count.count - c.loop-done._done - 1) = omega arith in
    rw (p.1, p.2)
    (or_later
    (λ h. inr (
      c.in_ok-count.count,
      c.two_bytes.new.c,
      start_reads (λ (n : ℕ). n) (u2 End) c.args.c.now c.two_bytes.new.c (Ok c.in_ok-count.count) c.in_ok-count.ensures,
      inl (fold_stop (λ (x : Codes). x) _ c.two_bytes.new.c (method_attribute c.args.pool.now) c.loop-done.c _ _ c.loop-done.found one c.loop-done.invariant c.in_err-found.field-0.0 h),
    ))
    c.in_err-found.field-0.0 c.in_err-found.ensures)

pub loop-done-preserved : goal.loop-done-preserved
loop-done-preserved c =
    let one : c.in_ok-count.count - c.loop-done._done ≡ suc (c.in_ok-count.count - (c.loop-done._done + 1)) = omega arith in
    fold_step (λ (x : Codes). x) _ c.two_bytes.new.c (method_attribute c.args.pool.now) c.loop-done.c _ _ c.loop-done.found one c.loop-done.invariant _ c.method_attribute.new.c c.in_ok-found.ensures

pub returns : goal.returns
returns c =
    methods_due c.args.pool.now c.args.needs_code c.args.flags_at c.args.c.now c.two_bytes.new.c c.loop-done.c c.in_ok-count.count c.loop-done.found c.due_code.result
    (start_reads (λ (n : ℕ). n) (u2 End) c.args.c.now c.two_bytes.new.c (Ok c.in_ok-count.count) c.in_ok-count.ensures)
    (fold_done (λ (x : Codes). x) _ c.two_bytes.new.c (method_attribute c.args.pool.now) c.loop-done.c _ c.loop-done.found (omega arith) c.loop-done.invariant)
    c.due_code.ensures

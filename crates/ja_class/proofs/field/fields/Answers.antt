use Rattle.std.proofs.Common.{◌≡◌, ◌+◌, ◌-◌, suc, arith}
use Rattle.std.proofs.lemmas.Result.{err_from_is_err_and}
use Rattle.ja_attributes.specs.Part.{times}
use Rattle.ja_attributes.proofs.Completes.{times_step}
use Rattle.ja_class.specs.ClassFault.{field}
use Rattle.ja_class.proofs.Counted.{counted_stop, counted_done}
use Rattle.ja_class.proofs.field.fields.Goals as goal

pub returns-in_err-next : goal.returns-in_err-next
returns-in_err-next c =
    let p = err_from_is_err_and c.from_residual-in_err-next.result c.from_residual-in_err-next.ensures.1 in
    let one : c.in_ok-count.count - c.loop-field._field ≡ suc (c.in_ok-count.count - c.loop-field._field - 1) = omega arith in
    rw (p.1, p.2)
    (counted_stop (field c.args.pool.now) c.args.c.now c.u2.new.c c.loop-field.c c.in_ok-count.count c.loop-field.fields _ _ one c.in_ok-count.ensures c.loop-field.invariant c.in_err-next.field-0.0 c.in_err-next.ensures)

pub loop-field-preserved : goal.loop-field-preserved
loop-field-preserved c =
    let part = field c.args.pool.now in
    let one : c.in_ok-count.count - c.loop-field._field ≡ suc (c.in_ok-count.count - (c.loop-field._field + 1)) = omega arith in
    rw c.in_ok-push.ensures.ok
    (times_step part (times c.in_ok-count.count part) c.u2.new.c c.loop-field.c c.loop-field.fields _ _ one c.loop-field.invariant c.in_ok-next.next c.field.new.c c.in_ok-next.ensures)

pub returns : goal.returns
returns c =
    counted_done (field c.args.pool.now) c.args.c.now c.u2.new.c c.loop-field.c c.in_ok-count.count c.loop-field.fields _ (omega arith) c.in_ok-count.ensures c.loop-field.invariant

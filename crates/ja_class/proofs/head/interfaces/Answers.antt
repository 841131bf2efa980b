use Rattle.std.proofs.Common.{◌≡◌, ◌+◌, ◌-◌, suc, arith}
use Rattle.std.proofs.lemmas.Result.{err_from_is_err_and}
use Rattle.ja_attributes.specs.Part.{times}
use Rattle.ja_attributes.proofs.Completes.{times_step}
use Rattle.ja_class.specs.ClassFault.{interface}
use Rattle.ja_class.proofs.Counted.{counted_stop, counted_done}
use Rattle.ja_class.proofs.head.interfaces.Goals as goal

pub returns-in_err-name : goal.returns-in_err-name
returns-in_err-name c =
    let p = err_from_is_err_and c.from_residual-in_err-name.result c.from_residual-in_err-name.ensures.1 in
    let one : c.in_ok-count.count - c.loop-interface._interface ≡ suc (c.in_ok-count.count - c.loop-interface._interface - 1) = omega arith in
    rw (p.1, p.2)
    (counted_stop (interface c.args.pool.now) c.args.c.now c.u2.new.c c.loop-interface.c c.in_ok-count.count c.loop-interface.names _ _ one c.in_ok-count.ensures c.loop-interface.invariant c.in_err-name.field-0.0 c.in_err-name.ensures)

pub loop-interface-preserved : goal.loop-interface-preserved
loop-interface-preserved c =
    let part = interface c.args.pool.now in
    let one : c.in_ok-count.count - c.loop-interface._interface ≡ suc (c.in_ok-count.count - (c.loop-interface._interface + 1)) = omega arith in
    rw c.in_ok-push.ensures.ok
    (times_step part (times c.in_ok-count.count part) c.u2.new.c c.loop-interface.c c.loop-interface.names _ _ one c.loop-interface.invariant c.in_ok-name.name c.interface.new.c c.in_ok-name.ensures)

pub returns : goal.returns
returns c =
    counted_done (interface c.args.pool.now) c.args.c.now c.u2.new.c c.loop-interface.c c.in_ok-count.count c.loop-interface.names _ (omega arith) c.in_ok-count.ensures c.loop-interface.invariant

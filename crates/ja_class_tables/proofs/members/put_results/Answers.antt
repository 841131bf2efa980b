use Rattle.std.proofs.Common.{arith, length, ap}
use Rattle.ja_class_tables.proofs.Written.{results-step}
use Rattle.ja_class_tables.proofs.members.put_results.Goals as goal

pub loop-m-preserved : goal.loop-m-preserved
loop-m-preserved c = results-step c.args.p.now c.args.net.now c.loop-m.m c.args.sets.now c.loop-m.sets c.put_result.new.sets c.loop-m.invariant c.in_ok-put_result.ensures (omega (arith, ap length c.methods.ensures.same))

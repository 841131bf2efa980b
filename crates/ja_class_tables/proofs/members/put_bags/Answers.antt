use Rattle.std.proofs.Common.{arith, length, ap}
use Rattle.ja_class_tables.proofs.Written.{bags-step}
use Rattle.ja_class_tables.proofs.members.put_bags.Goals as goal

pub loop-t-preserved : goal.loop-t-preserved
loop-t-preserved c = bags-step c.args.p.now c.args.net.now c.loop-t.t c.args.sets.now c.loop-t.sets c.put_bag.new.sets c.loop-t.invariant c.in_ok-put_bag.ensures (omega (arith, ap length c.classes.ensures.same))

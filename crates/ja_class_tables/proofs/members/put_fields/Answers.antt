use Rattle.std.proofs.Common.{arith, length, ap}
use Rattle.ja_class_tables.proofs.Written.{fields-step}
use Rattle.ja_class_tables.proofs.members.put_fields.Goals as goal

pub loop-f-preserved : goal.loop-f-preserved
loop-f-preserved c = fields-step c.args.p.now c.args.net.now c.loop-f.f c.args.sets.now c.loop-f.sets c.put_field.new.sets c.loop-f.invariant c.in_ok-put_field.ensures (omega (arith, ap length c.fields.ensures.same))

use Rattle.std.specs.Prelude.{None}
use Rattle.ja_bdd.proofs.Learning.{seat_keeps, seat_right}
use Rattle.ja_bdd.proofs.worker.Worker.take_seat.Goals as goal

pub invariant_of-self : goal.invariant_of-self
invariant_of-self g c = record { counted = c.args.self.now.counted; early = c.args.self.now.early; right = seat_right c.args.self.now.seat c.join.new.seat None c.args.self.now.cache.items c.join.ensures.grows.0 c.args.self.now.right }

pub returns-clause-learns : goal.returns-clause-learns
returns-clause-learns g c = (seat_keeps c.args.self.now.seat c.join.new.seat c.join.ensures.grows.0, seat_keeps c.args.seat c.join.new.seat c.join.ensures.grows.1)

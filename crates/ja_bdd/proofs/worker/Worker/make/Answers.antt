use Rattle.std.specs.Prelude.{None}
use Rattle.ja_bdd.proofs.Learning.{seat_keeps, seat_right}
use Rattle.ja_bdd.proofs.worker.Worker.make.Goals as goal

pub invariant_of-self : goal.invariant_of-self
invariant_of-self g c = record { counted = c.args.self.now.counted; early = c.args.self.now.early; right = seat_right c.args.self.now.seat c.build.new.seat None c.args.self.now.cache.items c.build.ensures.grows c.args.self.now.right }

pub returns-clause-keeps : goal.returns-clause-keeps
returns-clause-keeps g c = seat_keeps c.args.self.now.seat c.build.new.seat c.build.ensures.grows

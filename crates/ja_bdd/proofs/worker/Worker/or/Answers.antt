use Rattle.ja_bdd.proofs.Learning.{seat_keeps}
use Rattle.ja_bdd.proofs.worker.Worker.or.Goals as goal

pub returns-clause-keeps : goal.returns-clause-keeps
returns-clause-keeps g c = seat_keeps c.args.self.now.seat c.join.new.self.seat c.join.ensures.grows

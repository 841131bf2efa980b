use Rattle.ja_bdd.proofs.Learning.{seat_keeps}
use Rattle.ja_bdd.proofs.worker.Worker.exists.Goals as goal

pub returns-clause-keeps : goal.returns-clause-keeps
returns-clause-keeps g c = seat_keeps c.args.self.now.seat c.forget.new.self.seat c.forget.ensures.grows

use Rattle.ja_bdd.specs.Inner.{depth}
use Rattle.ja_bdd.specs.Workers.{seen}
use Rattle.ja_bdd.proofs.worker.Worker.+pick.Given as goal

abbrev pub decreases-pick : goal.decreases-pick
decreases-pick g l = depth (seen l.self.now) l.f.number

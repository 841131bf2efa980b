use Rattle.ja_node_table.specs.Seats.{known}
use Rattle.ja_bdd.specs.Inner.{depth}
use Rattle.ja_bdd.proofs.worker.Worker.+forget.Given as goal

abbrev pub decreases-forget : goal.decreases-forget
decreases-forget g l = depth (known l.self.now.seat) l.f.number

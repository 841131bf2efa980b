use Rattle.ja_node_table.specs.Seats.{known}
use Rattle.ja_bdd.specs.Inner.{depth}
use Rattle.ja_bdd.proofs.worker.Worker.+rename.Given as goal

abbrev pub decreases-rename : goal.decreases-rename
decreases-rename g l = depth (known l.self.now.seat) l.f.number

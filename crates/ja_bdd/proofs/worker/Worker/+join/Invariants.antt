use Rattle.ja_node_table.specs.Seats.{known}
use Rattle.ja_bdd.specs.Inner.{depth_of_both}
use Rattle.ja_bdd.proofs.worker.Worker.+join.Given as goal

abbrev pub decreases-join : goal.decreases-join
decreases-join g l = depth_of_both (known l.self.now.seat) l.f.number l.g.number

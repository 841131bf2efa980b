use Rattle.ja_node_table.specs.Seats.{known}
use Rattle.ja_bdd.specs.Inner.{depth}
use Rattle.ja_grow.proofs.growth.Growth.+copy.Given as goal

abbrev pub decreases-copy : goal.decreases-copy
decreases-copy g l = depth (known l.seat.now) l.n.number

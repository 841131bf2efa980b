use Rattle.std.proofs.Common.{◌+◌, ◌-◌, ◌*◌}
use Rattle.ja_node_table.specs.Seats.{IsOf, known}
use Rattle.node_bench.specs.Relations.{IsRest}
use Rattle.node_bench.proofs.relations.make_relation.Given as goal

abbrev pub invariant-loop-down : goal.invariant-loop-down
invariant-loop-down l = IsOf l.table l.seat × IsRest (known l.seat) (4 * (60 - l.down) + 2) l.rest

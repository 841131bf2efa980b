use Rattle.ja_node_table.specs.Seats.{IsOf}
use Rattle.node_bench.proofs.relations.fill_with_relations.Given as goal

abbrev pub invariant-loop-number : goal.invariant-loop-number
invariant-loop-number l = IsOf l.table l.seat

use Rattle.ja_node_table.specs.Seats.{IsOf}
use Rattle.diagram_cases.proofs.nodes.add_table.Given as goal

abbrev pub invariant-loop-line : goal.invariant-loop-line
invariant-loop-line l = IsOf l.table l.seat

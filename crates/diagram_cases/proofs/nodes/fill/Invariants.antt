use Rattle.ja_node_table.specs.Seats.{IsOf}
use Rattle.diagram_cases.proofs.nodes.fill.Given as goal

abbrev pub invariant-loop-var : goal.invariant-loop-var
invariant-loop-var l = IsOf l.table l.seat

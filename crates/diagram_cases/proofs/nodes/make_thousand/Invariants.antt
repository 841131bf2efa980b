use Rattle.ja_node_table.specs.Seats.{IsOf}
use Rattle.diagram_cases.proofs.nodes.make_thousand.Given as goal

abbrev pub invariant-loop-step : goal.invariant-loop-step
invariant-loop-step l = IsOf l.table l.seat

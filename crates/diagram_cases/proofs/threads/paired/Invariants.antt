use Rattle.diagram_cases.proofs.Pooled.{IsReady}
use Rattle.diagram_cases.proofs.threads.paired.Given as goal

abbrev pub invariant-loop-step : goal.invariant-loop-step
invariant-loop-step l = IsReady l.table l.pool.worker l.pool.nodes.items

use Rattle.diagram_cases.proofs.Pooled.{IsReady}
use Rattle.diagram_cases.proofs.large.kept.Given as goal

abbrev pub invariant-loop-down : goal.invariant-loop-down
invariant-loop-down l = IsReady l.table l.pool.worker l.pool.nodes.items

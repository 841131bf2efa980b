use Rattle.diagram_cases.proofs.Pooled.{IsReady}
use Rattle.diagram_cases.proofs.large.add_kept.Given as goal

abbrev pub invariant-loop-slot : goal.invariant-loop-slot
invariant-loop-slot l = IsReady l.table l.pool.worker l.pool.nodes.items

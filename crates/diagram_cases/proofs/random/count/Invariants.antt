use Rattle.diagram_cases.proofs.Pooled.{IsReady}
use Rattle.diagram_cases.proofs.random.count.Given as goal

abbrev pub invariant-loop-round : goal.invariant-loop-round
invariant-loop-round l = IsReady l.table l.pool.worker l.pool.nodes.items

use Rattle.diagram_cases.proofs.Pooled.{IsReady}
use Rattle.diagram_cases.proofs.stepped.add_presents.Given as goal

abbrev pub invariant-loop-present : goal.invariant-loop-present
invariant-loop-present l = IsReady l.table l.pool.worker l.pool.nodes.items

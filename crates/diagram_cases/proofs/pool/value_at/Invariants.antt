use Rattle.ja_bdd.specs.Workers.{IsWorkerOf, seen}
use Rattle.std.proofs.Common.{◌≡◌}
use Rattle.ja_node_core.specs.Node.{Knows}
use Rattle.diagram_cases.proofs.pool.value_at.Given as goal

abbrev pub invariant-loop-level : goal.invariant-loop-level
invariant-loop-level l = IsWorkerOf l.table l.worker × (seen l.worker ≡ seen l.fn.worker) × Knows (seen l.fn.worker) l.at.number

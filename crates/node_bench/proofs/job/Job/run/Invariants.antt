use Rattle.node_bench.specs.Ready.{IsReady}
use Rattle.node_bench.proofs.job.Job.run.Given as goal

abbrev pub invariant-loop-turn : goal.invariant-loop-turn
invariant-loop-turn l = IsReady l.table l.parts l.self

use Rattle.bdd_bench.specs.Ready.{IsReady}
use Rattle.bdd_bench.proofs.pool.Pool.new.Given as goal

abbrev pub invariant-loop-var : goal.invariant-loop-var
invariant-loop-var l = IsReady l.table l.pool

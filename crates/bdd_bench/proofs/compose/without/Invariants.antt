use Rattle.bdd_bench.specs.Ready.{IsReady}
use Rattle.bdd_bench.proofs.compose.without.Given as goal

abbrev pub invariant-loop-slot : goal.invariant-loop-slot
invariant-loop-slot l = IsReady l.table l.pool

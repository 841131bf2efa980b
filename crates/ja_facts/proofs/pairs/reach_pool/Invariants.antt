use Rattle.std.proofs.Common.{◌≡◌, map, take}
use Rattle.ja_ir.specs.declared.method.Method.{Method}
use Rattle.ja_facts.specs.FactTables.{live_count, no_pairs}
use Rattle.ja_facts.proofs.pairs.reach_pool.Given as goal

abbrev pub invariant-loop-method : goal.invariant-loop-method
invariant-loop-method l = l.pool ≡ map (λ (method : Method). no_pairs (live_count method)) (take l.method-index l.p.methods)

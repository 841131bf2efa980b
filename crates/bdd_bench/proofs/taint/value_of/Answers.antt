use Rattle.std.proofs.Common.{sym, subst}
use Rattle.bdd_bench.specs.Ready.{AreKnown}
use Rattle.bdd_bench.proofs.taint.value_of.Goals as goal

pub returns : goal.returns
returns c = (c.value.ensures.worker, subst (λ k. AreKnown k c.args.pool.now.nodes.items) (sym c.value.ensures.same) c.requires.1)

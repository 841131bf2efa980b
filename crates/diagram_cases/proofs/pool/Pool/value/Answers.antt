use Rattle.std.proofs.Common.{sym, subst}
use Rattle.diagram_cases.proofs.Pooled.{AreKnown}
use Rattle.diagram_cases.proofs.pool.Pool.value.Goals as goal

pub returns : goal.returns
returns c = (c.value_at.ensures.worker, subst (λ k. AreKnown k c.args.self.now.nodes.items) (sym c.value_at.ensures.same) c.requires.1)

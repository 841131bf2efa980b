use Rattle.std.proofs.Common.{sym, subst}
use Rattle.diagram_cases.proofs.Pooled.{AreKnown}
use Rattle.diagram_cases.proofs.pool.Pool.parts.Goals as goal

pub returns : goal.returns
returns c = (c.parts.ensures.worker, subst (λ k. AreKnown k c.args.self.now.nodes.items) (sym c.parts.ensures.same) c.requires.1)

use Rattle.std.proofs.Common.{sym, subst}
use Rattle.diagram_cases.proofs.Pooled.{AreKnown}
use Rattle.diagram_cases.proofs.pool.Pool.pick.Goals as goal

pub returns : goal.returns
returns c = (c.pick.ensures.worker.0, subst (λ k. AreKnown k c.args.self.now.nodes.items) (sym c.pick.ensures.worker.1) c.requires.1)

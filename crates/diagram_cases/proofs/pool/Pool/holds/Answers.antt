use Rattle.std.proofs.Common.{sym, subst}
use Rattle.diagram_cases.proofs.Pooled.{AreKnown}
use Rattle.diagram_cases.proofs.pool.Pool.holds.Goals as goal

pub returns : goal.returns
returns c = (c.holds_with.ensures.worker, subst (λ k. AreKnown k c.args.self.now.nodes.items) (sym c.holds_with.ensures.same) c.requires.1)

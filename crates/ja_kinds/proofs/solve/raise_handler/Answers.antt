use Rattle.std.proofs.Common.{ℕ}
use Rattle.ja_kinds.specs.InnerSolving.{Catches}
use Rattle.ja_kinds.proofs.Hands.{hands_none}
use Rattle.ja_kinds.proofs.solve.raise_handler.Goals as goal

pub returns-then-not-covers : goal.returns-then-not-covers
returns-then-not-covers c =
    hands_none c.args.max_locals (λ (p : ℕ). Catches c.args.row c.args.pc p) c.args.state.now c.args.states.now c.args.dirty.now c.requires.states
    (c.covers.ensures.outside c.if-not-covers.true)

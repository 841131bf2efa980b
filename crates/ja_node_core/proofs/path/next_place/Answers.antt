use Rattle.std.proofs.Common.{⊎_elim, sym, arith}
use Rattle.ja_node_core.proofs.Words.{next_is}
use Rattle.ja_node_core.proofs.path.next_place.Goals as goal

pub returns-then-at-slots : goal.returns-then-at-slots
returns-then-at-slots c w i e = ⊎_elim (λ t. sym t.1) (λ t. absurd (t.0 c.if-at-slots.true)) (next_is c.args.slots w i c.args.at (omega arith) e)

pub returns-else-at-slots : goal.returns-else-at-slots
returns-else-at-slots c w i e = ⊎_elim (λ t. absurd (c.if-at-slots.false t.0)) (λ t. sym t.1) (next_is c.args.slots w i c.args.at (omega arith) e)

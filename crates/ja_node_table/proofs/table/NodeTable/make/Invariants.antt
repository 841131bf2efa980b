use Rattle.std.proofs.Common.{◌≡◌}
use Rattle.ja_node_core.specs.Word.{place}
use Rattle.ja_node_table.specs.Seats.{seat_home, known}
use Rattle.ja_node_table.proofs.Making.{HasTried}
use Rattle.ja_node_table.proofs.table.NodeTable.make.Given as goal

abbrev pub invariant-loop-step : goal.invariant-loop-step
invariant-loop-step g l = (seat_home l.seat ≡ seat_home l.initial.seat) × (l.at ≡ place l.self.table.shared.key.slots l.word l._step) × HasTried l.self.table.shared.key.slots (known l.initial.seat) (known l.seat) l.word l._step

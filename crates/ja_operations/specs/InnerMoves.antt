-- Moves as the code lists them. Only private functions speak of it.
use Rattle.std.specs.Prelude.{Bool, length, nat_le}
use Rattle.ja_code.specs.Behaviour.{Move}
use Rattle.ja_operations.specs.declared.shuffle.WayToMove.{WayToMove}

abbrev pub move_seen : WayToMove → Move
move_seen step = record { takes = step.takes.now; pushes = step.pushes.now }

-- it takes four values at most
abbrev pub is_short : Move → Bool
is_short m = nat_le (length m.takes) 4

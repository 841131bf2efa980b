use Rattle.std.proofs.Common.{◌≡◌, map, drop}
use Rattle.ja_operations.specs.Shuffles.{first_move}
use Rattle.ja_operations.specs.InnerMoves.{move_seen}
use Rattle.ja_operations.proofs.shuffle.first_move.Given as goal

-- the first possible one of what is left is that of all
abbrev pub invariant-loop-step : goal.invariant-loop-step
invariant-loop-step l = first_move l.stack (map move_seen (drop l.step-index l.steps)) ≡ first_move l.stack (map move_seen l.steps)

use Rattle.std.proofs.Common.{◌≡◌, ◌++◌, ◌-◌}
use Rattle.ja_cells.specs.Rows as rows
use Rattle.ja_cells.proofs.row.own_row.Given as goal

-- the cells so far, and those that are left
abbrev pub invariant-loop-slot : goal.invariant-loop-slot
invariant-loop-slot l = l.row ++ rows.own_row l.method l.index l.slot (l.count - l.slot) ≡ rows.own_row l.method l.index 0 l.count

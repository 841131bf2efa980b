use Rattle.std.proofs.Common.{◌≡◌, ◌++◌, map, drop}
use Rattle.ja_cells.specs.Rows.{cell_in, last_of, without_last}
use Rattle.ja_cells.specs.Rows as rows
use Rattle.ja_cells.proofs.row.shuffled.Given as goal

-- the cells so far, and those that are left to push
abbrev pub invariant-loop-k : goal.invariant-loop-k
invariant-loop-k l = l.next ++ map (cell_in (last_of l.count l.row)) (drop l.k-index l.pushed) ≡ rows.shuffled l.row l.count l.pushed

use Rattle.std.proofs.Common.{◌≡◌, drop}
use Rattle.ja_operations.specs.Rows.{first_row}
use Rattle.ja_operations.proofs.row.first_row.Given as goal

-- what is left says what all say
abbrev pub invariant-loop-name : goal.invariant-loop-name
invariant-loop-name l = first_row l.table.rows (drop l.name-index l.names) l.member.name l.member.desc ≡ first_row l.table.rows l.names l.member.name l.member.desc

use Rattle.ja_heads.specs.Entries.{RowsAdd}
use Rattle.ja_heads.proofs.entry.add_rows.Given as goal

abbrev pub invariant-loop-row : goal.invariant-loop-row
invariant-loop-row l = RowsAdd l.hier l.rows l.class.0 l.head l.initial.entries l.row-index l.entries

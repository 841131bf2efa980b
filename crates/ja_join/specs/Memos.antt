-- What a memo holds.
use Rattle.std.specs.Prelude.{ℕ, length}
use Rattle.ja_join.specs.declared.memo.Memo.{Memo}

-- how many entries the memo has
abbrev pub entry_count : Memo → ℕ
entry_count memo = length memo.entries.items

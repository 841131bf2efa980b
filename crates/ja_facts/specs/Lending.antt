-- What a list ends as whose item was lent for writing.
use Rattle.std.specs.Prelude.{ℕ, List, slice_set}
use Rattle.std.specs.Borrow.{Lends, MutBor, Fml, RattleType}
use Rattle.ja_facts.specs.contracts.rows.Rows.{the_row}

-- the list ends with item i as it was left
abbrev pub LendsItem : (T : RattleType) → MutBor (List T.Denot) → ℕ → MutBor T.Denot → Fml
LendsItem T rows i r = Lends (the_row T) T rows r (slice_set rows.now i)

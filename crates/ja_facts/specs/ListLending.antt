-- What tables of lists end as, one of whose items was lent for writing.
use Rattle.std.specs.Prelude.{ℕ, List}
use Rattle.std.specs.Borrow.{Lends, MutBor, Fml, RattleType}
use Rattle.ja_facts.specs.contracts.rows.Rows.{the_row}
use Rattle.ja_facts.specs.Listing.{with_listed_in}

-- the rows end with that item as it was left
abbrev pub LendsListedIn : (T : RattleType) → MutBor (List (List T.Denot)) → (row k : ℕ) → MutBor T.Denot → Fml
LendsListedIn T rows row k r = Lends (the_row (the_row T)) T rows r (with_listed_in rows.now row k)

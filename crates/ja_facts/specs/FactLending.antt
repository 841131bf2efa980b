-- What the results of the other analyses end as, a part of which was lent for writing.
use Rattle.std.specs.Prelude.{ℕ, Bool, List, slice_set}
use Rattle.std.specs.Borrow.{Lends, MutBor, Fml}
use Rattle.ja_sets.specs.contracts.tokens.TokenSet as tokens
use Rattle.ja_facts.specs.FactTables.{HeldTable}
use Rattle.ja_facts.specs.contracts.holds.Holds as holding

-- what is held ends with that of a token as it was left
abbrev pub LendsOfToken : MutBor HeldTable → (t : ℕ) → MutBor (List Bool) → Fml
LendsOfToken table t r = Lends holding.the_row tokens.the_row table r (λ set. record table.now { tokens = slice_set table.now.tokens t set })

-- what is held ends with that of a field as it was left
abbrev pub LendsOfField : MutBor HeldTable → (f : ℕ) → MutBor (List Bool) → Fml
LendsOfField table f r = Lends holding.the_row tokens.the_row table r (λ set. record table.now { fields = slice_set table.now.fields f set })

-- What class sets end as, one of whose sets was lent for writing.
use Rattle.std.specs.Prelude.{ℕ, Bool, List, slice_set}
use Rattle.std.specs.Borrow.{Lends, MutBor, Fml}
use Rattle.ja_sets.specs.contracts.tokens.TokenSet as tokens
use Rattle.ja_facts.specs.ClassTables.{ClassTable}
use Rattle.ja_facts.specs.Listing.{with_listed_in}
use Rattle.ja_facts.specs.contracts.classes.ClassSets.{the_row}

-- the sets end with the set of a parameter as it was left
abbrev pub LendsParam : MutBor ClassTable → (m k : ℕ) → MutBor (List Bool) → Fml
LendsParam sets m k r = Lends the_row tokens.the_row sets r (λ set. record sets.now { params = with_listed_in sets.now.params m k set })

-- the sets end with the set of a method's results as it was left
abbrev pub LendsResult : MutBor ClassTable → (m : ℕ) → MutBor (List Bool) → Fml
LendsResult sets m r = Lends the_row tokens.the_row sets r (λ set. record sets.now { results = slice_set sets.now.results m set })

-- the sets end with the set of what a method throws as it was left
abbrev pub LendsOut : MutBor ClassTable → (m : ℕ) → MutBor (List Bool) → Fml
LendsOut sets m r = Lends the_row tokens.the_row sets r (λ set. record sets.now { outs = slice_set sets.now.outs m set })

-- the sets end with the set of a field as it was left
abbrev pub LendsField : MutBor ClassTable → (f : ℕ) → MutBor (List Bool) → Fml
LendsField sets f r = Lends the_row tokens.the_row sets r (λ set. record sets.now { fields = slice_set sets.now.fields f set })

-- the sets end with the set of a token's bags as it was left
abbrev pub LendsBag : MutBor ClassTable → (t : ℕ) → MutBor (List Bool) → Fml
LendsBag sets t r = Lends the_row tokens.the_row sets r (λ set. record sets.now { bags = slice_set sets.now.bags t set })

use Rattle.std.proofs.Common.{◌≡◌}
use Rattle.ja_holds.specs.Inner.{lacking}
use Rattle.ja_holds.specs.Searches.{IsSearch}
use Rattle.ja_holds.proofs.search.search_from.Given as goal

abbrev pub invariant-rounds : goal.invariant-rounds
invariant-rounds l = record {
  search : IsSearch l.p l.c l.search;
  start : l.search.start ≡ l.start;
}

abbrev pub decreases-rounds : goal.decreases-rounds
decreases-rounds l = lacking l.search.handled

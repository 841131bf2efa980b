use Rattle.std.proofs.Common.{◌≡◌, ℕ, ◌+◌, ◌<◌, ◌≤◌, true, false}
use Rattle.ja_sets.specs.Sets.{Has}
use Rattle.ja_holds.specs.Inner.{lacking}
use Rattle.ja_holds.specs.Searches.{IsSearch}
use Rattle.ja_holds.proofs.search.round.Given as goal

abbrev pub invariant-loop-k : goal.invariant-loop-k
invariant-loop-k l = record {
  search : IsSearch l.p l.c l.search;
  start : l.search.start ≡ l.initial.search.start;
  handled : l.changed ≡ false → (u : ℕ) → l.n ≤ u + l.k → u < l.n → Has l.search.span u → Has l.search.handled u;
  steady : lacking l.search.handled ≤ lacking l.initial.search.handled;
  falls : l.changed ≡ true → lacking l.search.handled < lacking l.initial.search.handled;
}

use Rattle.std.proofs.Common.{◌≡◌, ◌-◌}
use Rattle.ja_facts.specs.FactTables.{empty_held}
use Rattle.ja_holds.specs.Searches.{AreDone}
use Rattle.ja_holds.proofs.tokens.find_tokens.Given as goal

abbrev pub invariant-loop-k : goal.invariant-loop-k
invariant-loop-k l = record {
  done : AreDone l.p l.c l.found.spans l.found.holds.tokens (l.n - l.k);
  fields : l.found.holds.fields ≡ (empty_held l.p).fields;
}

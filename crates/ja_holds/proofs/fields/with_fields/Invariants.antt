use Rattle.std.proofs.Common.{◌≡◌}
use Rattle.ja_holds.specs.Searches.{AreDone, AreFields}
use Rattle.ja_holds.proofs.fields.with_fields.Given as goal

abbrev pub invariant-loop-f : goal.invariant-loop-f
invariant-loop-f l = record {
  done : AreDone l.p l.c l.found.spans l.found.holds.tokens 0;
  tokens : l.found.holds.tokens ≡ l.initial.found.holds.tokens;
  fields : AreFields l.p l.c l.f l.found.holds.fields;
}

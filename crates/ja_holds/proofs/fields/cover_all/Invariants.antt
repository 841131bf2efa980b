use Rattle.std.proofs.Common.{◌≤◌}
use Rattle.ja_holds.specs.Covers.{IsCover}
use Rattle.ja_holds.proofs.fields.cover_all.Given as goal

abbrev pub invariant-loop-i : goal.invariant-loop-i
invariant-loop-i l = record {
  cover : IsCover l.p l.c l.set l.from l.all;
  far : l._i ≤ l.from;
  within : l.from ≤ l.n;
}

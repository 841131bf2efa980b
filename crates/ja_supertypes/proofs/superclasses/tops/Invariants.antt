use Rattle.std.proofs.Common.{◌≡◌, ℕ, ◌<◌, length, get_or}
use Rattle.ja_supertypes.specs.InnerIndex.{IsTop}
use Rattle.ja_supertypes.proofs.superclasses.tops.Given as goal

abbrev pub invariant-loop-class : goal.invariant-loop-class
invariant-loop-class l = record {
  size : length l.tops ≡ l.class;
  each : (c : ℕ) → c < l.class → IsTop l.heads c (get_or l.tops c 0);
}

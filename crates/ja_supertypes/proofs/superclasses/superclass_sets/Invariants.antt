use Rattle.std.proofs.Common.{◌≡◌, ℕ, ◌<◌, [], length, get_or}
use Rattle.ja_supertypes.specs.InnerIndex.{HasJust}
use Rattle.ja_supertypes.specs.Supertypes.{IsSuperclass}
use Rattle.ja_supertypes.proofs.superclasses.superclass_sets.Given as goal

abbrev pub invariant-loop-class : goal.invariant-loop-class
invariant-loop-class l = record {
  size : length l.sets.items ≡ l.class;
  each : (c : ℕ) → c < l.class → HasJust (IsSuperclass l.heads c) (length l.heads) (get_or l.sets.items c []);
}

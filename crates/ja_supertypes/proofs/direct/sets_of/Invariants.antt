use Rattle.std.proofs.Common.{◌≡◌, ℕ, ◌<◌, [], length, get_or}
use Rattle.ja_supertypes.specs.InnerRows.{IsSetOf}
use Rattle.ja_supertypes.proofs.direct.sets_of.Given as goal

abbrev pub invariant-loop-places : goal.invariant-loop-places
invariant-loop-places l = record {
  size : length l.sets.items ≡ l.places-index;
  each : (i : ℕ) → i < l.places-index → IsSetOf (get_or l.lists i []) l.len (get_or l.sets.items i []);
}

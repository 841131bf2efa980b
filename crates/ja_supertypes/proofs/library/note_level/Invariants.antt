use Rattle.std.proofs.Common.{◌≡◌, ℕ, ◌<◌, [], length, get_or}
use Rattle.ja_supertypes.specs.InnerTypes.{AreNoted}
use Rattle.ja_supertypes.proofs.library.note_level.Given as goal

abbrev pub invariant-loop-class : goal.invariant-loop-class
invariant-loop-class l = record {
  own_size : length l.types.own.items ≡ length l.tables.heads;
  all_size : length l.types.all.items ≡ length l.tables.heads;
  below : (c : ℕ) → c < length l.tables.heads → length (get_or l.tables.supertypes c []) < l.count → AreNoted l.tables.heads l.types.own.items l.types.all.items c;
  level : (c : ℕ) → c < l.class → length (get_or l.tables.supertypes c []) ≡ l.count → AreNoted l.tables.heads l.types.own.items l.types.all.items c;
}

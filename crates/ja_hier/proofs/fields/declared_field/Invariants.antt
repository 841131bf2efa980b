use Rattle.std.proofs.Common.{ℕ, ◌<◌, ◌∷◌, [], length}
use Rattle.std.specs.Prelude.{Some}
use Rattle.ja_base.specs.Index.{numbers_at}
use Rattle.ja_hier.specs.InnerIndex.{Covers}
use Rattle.ja_hier.specs.LookUps.{FieldSearch}
use Rattle.ja_hier.specs.InnerIndex.{IsDeclaredAbove}
use Rattle.ja_supertypes.proofs.Ranks.{rank_of}
use Rattle.ja_hier.proofs.fields.declared_field.Given as goal

abbrev pub invariant-loop-field : goal.invariant-loop-field
invariant-loop-field l = record {
  inside : l.at < length l.tables.classes;
  covers : Covers l.tables.classes l.at (numbers_at l.tables.fields.classes l.name) l.listed;
  declared : IsDeclaredAbove l.tables.classes l.name l.desc l.at;
  finds : (f : ℕ) → FieldSearch l.tables.classes l.name l.desc (l.at ∷ []) (Some f) → FieldSearch l.tables.classes l.name l.desc (l.class ∷ []) (Some f);
}

abbrev pub decreases-loop-field : goal.decreases-loop-field
decreases-loop-field l = rank_of l.tables.classes l.at

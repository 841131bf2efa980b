use Rattle.std.proofs.Common.{◌≡◌, ◌++◌, map, take}
use Rattle.ja_heads.specs.Fields.{field_of}
use Rattle.ja_heads.proofs.field.add_fields.Given as goal

abbrev pub invariant-loop-field : goal.invariant-loop-field
invariant-loop-field l = l.fields ≡ l.initial.fields ++ map (field_of l.class.0) (take l.field-index l.declared)

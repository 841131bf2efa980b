use Rattle.std.proofs.Common.{List, ◌++◌, ◌-◌}
use Rattle.ja_attributes.specs.Part.{times}
use Rattle.ja_attributes.proofs.Completes.{Completes}
use Rattle.ja_ir.specs.declared.head.HeadField.{HeadField}
use Rattle.ja_class.specs.ClassFault.{field}
use Rattle.ja_class.proofs.field.fields.Given as goal

abbrev pub invariant-loop-field : goal.invariant-loop-field
invariant-loop-field l = Completes (λ (others : List HeadField). l.fields ++ others) (times l.count (field l.pool)) l.initial.c (times (l.count - l._field) (field l.pool)) l.c

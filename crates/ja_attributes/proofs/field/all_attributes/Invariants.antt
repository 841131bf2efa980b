use Rattle.std.proofs.Common.{ℕ, ◌-◌}
use Rattle.std.specs.Prelude.{Option, None}
use Rattle.ja_attributes.specs.Faults.{field_attribute}
use Rattle.ja_attributes.specs.Part.{fold}
use Rattle.ja_attributes.proofs.Completes.{Completes}
use Rattle.ja_attributes.proofs.field.all_attributes.Given as goal

abbrev pub invariant-loop-done : goal.invariant-loop-done
invariant-loop-done l = Completes (λ (x : Option ℕ). x) (fold (field_attribute l.pool) l.count None) l.initial.c (fold (field_attribute l.pool) (l.count - l._done) l.found) l.c

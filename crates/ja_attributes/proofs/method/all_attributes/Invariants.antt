use Rattle.std.proofs.Common.{◌-◌}
use Rattle.ja_attributes.specs.declared.method.Codes.{Codes}
use Rattle.ja_attributes.specs.declared.method.Codes.TheVariants.{Absent}
use Rattle.ja_attributes.specs.Faults.{method_attribute}
use Rattle.ja_attributes.specs.Part.{fold}
use Rattle.ja_attributes.proofs.Completes.{Completes}
use Rattle.ja_attributes.proofs.method.all_attributes.Given as goal

abbrev pub invariant-loop-done : goal.invariant-loop-done
invariant-loop-done l = Completes (λ (x : Codes). x) (fold (method_attribute l.pool) l.count Absent) l.initial.c (fold (method_attribute l.pool) (l.count - l._done) l.found) l.c

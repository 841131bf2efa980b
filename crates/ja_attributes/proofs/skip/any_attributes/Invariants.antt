use Rattle.std.proofs.Common.{◌-◌}
use Rattle.std.specs.Prelude.{⊤}
use Rattle.ja_attributes.specs.Faults.{any_attribute}
use Rattle.ja_attributes.specs.Part.{fold}
use Rattle.ja_attributes.specs.InnerSteps.{IsWithin, onward}
use Rattle.ja_attributes.proofs.Completes.{Completes}
use Rattle.ja_attributes.proofs.skip.any_attributes.Given as goal

abbrev pub invariant-loop-done : goal.invariant-loop-done
invariant-loop-done l = IsWithin l.base l.c × Completes (λ (u : ⊤). u) (fold (λ _. any_attribute l.pool) l.count tt) (onward l.base l.initial.c) (fold (λ _. any_attribute l.pool) (l.count - l._done) tt) (onward l.base l.c)

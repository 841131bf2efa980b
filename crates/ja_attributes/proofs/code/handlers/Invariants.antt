use Rattle.std.proofs.Common.{◌≡◌, List, ◌++◌, length, ◌-◌}
use Rattle.ja_code.specs.declared.handler.RawHandler.{RawHandler}
use Rattle.ja_attributes.specs.Faults.{handler}
use Rattle.ja_attributes.specs.Part.{times}
use Rattle.ja_attributes.specs.InnerSteps.{IsWithin, onward}
use Rattle.ja_attributes.proofs.Completes.{Completes}
use Rattle.ja_attributes.proofs.code.handlers.Given as goal

abbrev pub invariant-loop-done : goal.invariant-loop-done
invariant-loop-done l =
    IsWithin l.base l.c × (length l.rows.items ≡ l._done)
    × Completes (λ (others : List RawHandler). l.rows.items ++ others) (times l.count handler) (onward l.base l.initial.c) (times (l.count - l._done) handler) (onward l.base l.c)

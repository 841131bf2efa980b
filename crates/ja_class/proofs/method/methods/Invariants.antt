use Rattle.std.proofs.Common.{◌≡◌, [], ◌-◌, length}
use Rattle.ja_attributes.specs.Part.{fold}
use Rattle.ja_attributes.proofs.Completes.{Completes}
use Rattle.ja_class.specs.declared.method.MethodLists.{MethodLists}
use Rattle.ja_class.specs.ClassFault.{next_method}
use Rattle.ja_class.proofs.method.methods.Given as goal

abbrev pub invariant-loop-number : goal.invariant-loop-number
invariant-loop-number l =
    (length l.heads ≡ l.number)
    × Completes (λ (s : MethodLists). s) (fold (next_method l.pool) l.count (record { heads = []; bodies = [] })) l.initial.c
    (fold (next_method l.pool) (l.count - l.number) (record { heads = l.heads; bodies = l.bodies })) l.c

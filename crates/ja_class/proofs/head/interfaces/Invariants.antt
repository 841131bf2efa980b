use Rattle.std.proofs.Common.{List, ℕ, ◌++◌, ◌-◌}
use Rattle.ja_attributes.specs.Part.{times}
use Rattle.ja_attributes.proofs.Completes.{Completes}
use Rattle.ja_class.specs.ClassFault.{interface}
use Rattle.ja_class.proofs.head.interfaces.Given as goal

abbrev pub invariant-loop-interface : goal.invariant-loop-interface
invariant-loop-interface l = Completes (λ (others : List (List ℕ)). l.names ++ others) (times l.count (interface l.pool)) l.initial.c (times (l.count - l._interface) (interface l.pool)) l.c

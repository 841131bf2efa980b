use Rattle.std.proofs.Common.{◌≡◌, ℕ, ◌<◌, map, take}
use Rattle.ja_ir.specs.declared.head.ClassHead.{ClassHead}
use Rattle.ja_supertypes.specs.Faults.{IsDuplicate}
use Rattle.ja_supertypes.proofs.names.number_names.Given as goal

abbrev pub invariant-loop-class : goal.invariant-loop-class
invariant-loop-class l = record {
  names : l.names.keys ≡ map (λ (head : ClassHead). head.name) (take l.class l.heads);
  distinct : (b : ℕ) → b < l.class → IsDuplicate l.heads b → ⊥;
}

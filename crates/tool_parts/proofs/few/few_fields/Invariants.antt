use Rattle.std.proofs.Common.{◌≡◌, ◌+◌, take}
use Rattle.std.specs.Prelude.{length, sum_by}
use Rattle.ja_class.specs.Meaning.{ClassSpelled}
use Rattle.tool_parts.proofs.few.few_fields.Given as goal

abbrev pub invariant-loop-class : goal.invariant-loop-class
invariant-loop-class l = l.left + sum_by (λ (class : ClassSpelled). length class.head.fields) (take l.class-index l.classes) ≡ 67108864

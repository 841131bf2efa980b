use Rattle.std.proofs.Common.{◌≡◌, take}
use Rattle.std.specs.Prelude.{sum_by}
use Rattle.ja_class.specs.declared.class.ClassMethod.{ClassMethod}
use Rattle.ja_lower.specs.Program.{code_length}
use Rattle.tool_parts.proofs.few.instructions_of.Given as goal

abbrev pub invariant-loop-method : goal.invariant-loop-method
invariant-loop-method l = l.count ≡ sum_by (λ (body : ClassMethod). code_length body.code) (take l.method-index l.class.methods)

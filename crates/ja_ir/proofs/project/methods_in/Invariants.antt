use Rattle.std.proofs.Common.{◌≡◌, map, take}
use Rattle.ja_ir.specs.Categories.{method_in}
use Rattle.ja_ir.proofs.project.methods_in.Given as goal

abbrev pub invariant-loop-method : goal.invariant-loop-method
invariant-loop-method l = l.list ≡ map (method_in l.category) (take l.method-index l.methods)

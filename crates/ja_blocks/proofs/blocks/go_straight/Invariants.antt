use Rattle.std.specs.Prelude.{◌≡◌, ◌<◌, ℕ, Some, slice_get}
use Rattle.ja_ir.specs.declared.method.Instr.{Instr}
use Rattle.ja_blocks.specs.Inner.{GoesOn}
use Rattle.ja_blocks.proofs.blocks.go_straight.Given as goal

abbrev pub invariant-loop-place : goal.invariant-loop-place
invariant-loop-place l = (i : ℕ) (instr : Instr) → i < l.place → slice_get l.code i ≡ Some instr → GoesOn i instr

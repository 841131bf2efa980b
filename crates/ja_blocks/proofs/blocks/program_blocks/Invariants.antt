use Rattle.std.specs.Prelude.{◌≡◌}
use Rattle.ja_blocks.proofs.Ordering.{AreUpTo}
use Rattle.ja_blocks.proofs.blocks.program_blocks.Given as goal

abbrev pub invariant-loop-method : goal.invariant-loop-method
invariant-loop-method l = (l.number ≡ l.method-index) × AreUpTo l.p l.number l.blocks

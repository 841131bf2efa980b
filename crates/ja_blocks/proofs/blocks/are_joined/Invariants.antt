use Rattle.std.specs.Prelude.{◌<◌, ℕ}
use Rattle.ja_blocks.specs.Blocks.{IsAmong}
use Rattle.ja_blocks.proofs.blocks.are_joined.Given as goal

abbrev pub invariant-loop-block : goal.invariant-loop-block
invariant-loop-block l = (i : ℕ) → i < l.end → IsAmong l.row i

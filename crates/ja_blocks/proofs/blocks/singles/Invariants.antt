use Rattle.ja_blocks.specs.Inner.{AreSingles}
use Rattle.ja_blocks.proofs.blocks.singles.Given as goal

abbrev pub invariant-loop-place : goal.invariant-loop-place
invariant-loop-place l = AreSingles l.place l.row

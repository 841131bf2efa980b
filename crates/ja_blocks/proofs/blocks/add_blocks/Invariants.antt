use Rattle.std.specs.Prelude.{◌≡◌, ◌++◌, map, take}
use Rattle.ja_blocks.specs.Blocks.{in_method}
use Rattle.ja_blocks.proofs.blocks.add_blocks.Given as goal

abbrev pub invariant-loop-block : goal.invariant-loop-block
invariant-loop-block l = l.out ≡ l.initial.out ++ map (in_method l.method) (take l.block-index l.row)

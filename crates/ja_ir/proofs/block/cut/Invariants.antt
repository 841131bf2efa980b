use Rattle.std.proofs.Common.{◌≡◌, ◌<◌, ◌++◌, drop}
use Rattle.ja_ir.specs.InnerLeaders.{blocks_from}
use Rattle.ja_ir.proofs.block.cut.Given as goal

-- the blocks so far and those that the flags from here on give are all blocks
abbrev pub invariant-loop-i : goal.invariant-loop-i
invariant-loop-i l =
    (l.first < l.i) × (l.list ++ blocks_from l.first l.i (drop l.i l.starts) ≡ blocks_from 0 1 (drop 1 l.starts))

use Rattle.std.proofs.Common.{get_or, arith}
use Rattle.std.proofs.lemmas.List.Elements.{Contains-get_or}
use native.Mathlib.Decide.{dec_lt}
use mathlib.Core.Logic.{dite}
use Rattle.ja_ir.specs.declared.block.Block.{Block}
use Rattle.ja_blocks.proofs.blocks.are_joined.Goals as goal

pub loop-block-preserved : goal.loop-block-preserved
loop-block-preserved c = λ i lt. dite (dec_lt i c.loop-block.end)
    (λ less. c.loop-block.invariant i less)
    (λ not.
    let none : Block = record { first = 0; last = 0 } in
    let first = c.if-from-end.false in
    let is_first = c.from.ensures in
    let is_last = c.from-end.ensures in
    record {
      block = get_or c.args.row.now c.loop-block.block-index none;
      listed = Contains-get_or c.args.row.now c.loop-block.block-index none c.loop-block-test.true;
      from = omega arith;
      to = omega arith;
    })

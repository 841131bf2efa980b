use Rattle.std.proofs.Common.{◌++◌, ap, ◌∙◌}
use Rattle.ja_network.specs.declared.cell.Cell.{Cell}
use Rattle.ja_network.specs.declared.cell.Cell.TheVariants.{Bag}
use Rattle.ja_constraints.specs.Links.{copy}
use Rattle.ja_constraints.specs.Places.{argument_cell}
use Rattle.ja_firing.specs.Tokens.{fills_from}
use Rattle.ja_constraints.proofs.More.{over-more}
use Rattle.ja_firing.proofs.object.add_fills_from.Goals as goal

pub loop-k-preserved : goal.loop-k-preserved
loop-k-preserved c =
    let row = c.args.row.now in
    let call = c.args.call.now in
    over-more (λ k. copy (argument_cell row c.args.locals c.args.height call k) (Bag c.args.token)) c.loop-k.k c.arguments-count.result c.loop-k.told c.add_copy.new.told
    (c.args.told.now ++ fills_from row c.args.locals c.args.height c.args.token call) c.loop-k-test.true
    (c.in_ok-add_copy.ensures ∙ ap (λ (from : Cell). c.loop-k.told ++ copy from (Bag c.args.token)) c.argument_cell-from.ensures) c.loop-k.invariant

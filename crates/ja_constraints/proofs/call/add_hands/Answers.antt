use Rattle.std.proofs.Common.{◌++◌, ap, ◌∙◌}
use Rattle.ja_network.specs.declared.cell.Cell.{Cell}
use Rattle.ja_network.specs.declared.cell.Cell.TheVariants.{Param}
use Rattle.ja_constraints.specs.Links.{copy}
use Rattle.ja_constraints.specs.Places.{argument_cell}
use Rattle.ja_constraints.specs.Calls.{hands}
use Rattle.ja_constraints.proofs.More.{over-more}
use Rattle.ja_constraints.proofs.call.add_hands.Goals as goal

pub loop-param-preserved : goal.loop-param-preserved
loop-param-preserved c =
    let row = c.args.row.now in
    let call = c.args.call.now in
    over-more (λ k. copy (argument_cell row c.args.locals c.args.height call k) (Param c.args.method k)) c.loop-param.param c.arguments-count.result c.loop-param.told c.add_copy.new.told
    (c.args.told.now ++ hands row c.args.locals c.args.height call c.args.method) c.loop-param-test.true
    (c.in_ok-add_copy.ensures ∙ ap (λ (from : Cell). c.loop-param.told ++ copy from (Param c.args.method c.loop-param.param)) c.argument_cell-from.ensures) c.loop-param.invariant

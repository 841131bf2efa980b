use Rattle.std.proofs.Common.{◌++◌, ap, ◌∙◌}
use Rattle.ja_network.specs.declared.cell.Cell.{Cell}
use Rattle.ja_constraints.specs.Places.{argument_cell}
use Rattle.ja_constraints.specs.LibraryCalls.{argument_does, arguments_do}
use Rattle.ja_constraints.proofs.More.{over-more}
use Rattle.ja_constraints.proofs.library.add_arguments.Goals as goal

pub loop-k-preserved : goal.loop-k-preserved
loop-k-preserved c =
    let row = c.args.row.now in
    let call = c.args.call.now in
    over-more (λ k. argument_does c.args.m c.args.i k (argument_cell row c.args.locals c.args.height call k) call) c.loop-k.k c.arguments-count.result c.loop-k.told c.add_argument.new.told
    (c.args.told.now ++ arguments_do c.args.m c.args.i row c.args.locals c.args.height call) c.loop-k-test.true
    (c.in_ok-add_argument.ensures ∙ ap (λ (from : Cell). c.loop-k.told ++ argument_does c.args.m c.args.i c.loop-k.k from call) c.argument_cell-from.ensures) c.loop-k.invariant

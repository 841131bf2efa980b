use Rattle.std.proofs.Common.{◌++◌, ap, ◌∙◌}
use Rattle.ja_network.specs.declared.cell.Cell.{Cell}
use Rattle.ja_network.specs.declared.cell.Cell.TheVariants.{Before}
use Rattle.ja_cells.specs.Rows.{cell_in}
use Rattle.ja_constraints.specs.Links.{copy}
use Rattle.ja_firing.specs.Tokens.{keeps}
use Rattle.ja_constraints.proofs.More.{over-more}
use Rattle.ja_firing.proofs.object.add_keeps.Goals as goal

pub loop-slot-preserved : goal.loop-slot-preserved
loop-slot-preserved c =
    let row = c.args.row.now in
    let to = Before c.args.method c.args.index c.loop-slot.slot in
    over-more (λ slot. copy (cell_in row slot) (Before c.args.method c.args.index slot)) c.loop-slot.slot c.args.locals c.loop-slot.told c.add_copy.new.told
    (c.args.told.now ++ keeps c.args.method c.args.index row c.args.locals) c.loop-slot-test.true
    (c.in_ok-add_copy.ensures ∙ ap (λ (from : Cell). c.loop-slot.told ++ copy from to) c.cell_in.ensures) c.loop-slot.invariant

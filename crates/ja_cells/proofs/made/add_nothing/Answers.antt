use Rattle.std.proofs.Common.{◌++◌, replicate, arith}
use Rattle.ja_network.specs.declared.cell.Cell.TheVariants.{Nothing}
use Rattle.ja_cells.proofs.Counting.{nothing-more}
use Rattle.ja_cells.proofs.made.add_nothing.Goals as goal

pub loop-i-preserved : goal.loop-i-preserved
loop-i-preserved c =
    nothing-more c.loop-i._i c.args.count c.loop-i.row c.push.new.self (c.args.row.now ++ replicate c.args.count Nothing) (omega arith) c.in_ok-push.ensures.ok c.loop-i.invariant

use Rattle.std.proofs.Common.{arith}
use Rattle.ja_cells.specs.Rows as rows
use Rattle.ja_cells.proofs.Counting.{own-more}
use Rattle.ja_cells.proofs.row.own_row.Goals as goal

pub loop-slot-preserved : goal.loop-slot-preserved
loop-slot-preserved c =
    own-more c.args.method c.args.index c.loop-slot.slot c.args.count c.loop-slot.row c.push.new.self (rows.own_row c.args.method c.args.index 0 c.args.count) (omega arith) c.in_ok-push.ensures.ok
    c.loop-slot.invariant

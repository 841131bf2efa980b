use Rattle.std.proofs.Common.{◌+◌, ◌*◌, ◌-◌, arith}
use Rattle.ja_node_table.specs.Seats.{known}
use Rattle.node_bench.proofs.Kept.{under_more, under_less, rest_more, rest_under, forced_under}
use Rattle.node_bench.proofs.relations.slot_node.Goals as goal

pub ending-requires-clause-rest : goal.ending-requires-clause-rest
ending-requires-clause-rest c = rest_under (known c.args.seat.now) (4 * c.args.slot + 2) c.args.rest c.after-after.result c.requires.rest c.after-after.ensures

pub ending-requires-2-clause-rest : goal.ending-requires-2-clause-rest
ending-requires-2-clause-rest c =
    let before = known c.args.seat.now in
    let now = known c.ending.new.seat in
    let var = 4 * c.args.slot + 2 in
    rest_under now var c.args.rest c.after-after-2.result (rest_more before now c.ending.ensures.grows var c.args.rest c.requires.rest) c.after-after-2.ensures

pub link-requires-clause-asked : goal.link-requires-clause-asked
link-requires-clause-asked c = record {
  low = under_more (known c.ending.new.seat) (known c.ending-2.new.seat) c.ending-2.ensures.grows (4 * c.args.slot + 1) c.in_ok-lo.lo c.in_ok-lo.ensures.under;
  high = c.in_ok-hi.ensures.under;
}

pub link-requires-2-clause-asked : goal.link-requires-2-clause-asked
link-requires-2-clause-asked c =
    let now = known c.link.new.seat in
    let var = 4 * c.args.slot in
    let under = under_less now (var + 1 - 1) var c.in_ok-now.now (omega arith) c.in_ok-now.ensures.under in
    record { low = forced_under now var c.forced-lo.result c.in_ok-now.now under c.forced-lo.ensures; high = under }

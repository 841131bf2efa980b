use Rattle.std.proofs.Common.{◌+◌, ◌*◌, ◌-◌, arith}
use Rattle.ja_node_table.specs.Seats.{known}
use Rattle.node_bench.proofs.Kept.{under_more, under_less, rest_more}
use Rattle.node_bench.proofs.relations.rest_before.Goals as goal

pub slot_node-requires-2-clause-rest : goal.slot_node-requires-2-clause-rest
slot_node-requires-2-clause-rest c = rest_more (known c.args.seat.now) (known c.slot_node.new.seat) c.slot_node.ensures.grows (4 * c.args.slot + 2) c.args.rest c.requires.rest

pub returns-clause-rest : goal.returns-clause-rest
returns-clause-rest c =
    let now = known c.slot_node-2.new.seat in
    let var = 4 * c.args.slot in
    record {
      clean = under_less now (var - 1) (var - 2) c.in_ok-clean.clean (omega arith) (under_more (known c.slot_node.new.seat) now c.slot_node-2.ensures.grows (var - 1) c.in_ok-clean.clean c.in_ok-clean.ensures.under);
      tainted = under_less now (var - 1) (var - 2) c.in_ok-tainted.tainted (omega arith) c.in_ok-tainted.ensures.under;
    }

use Rattle.std.proofs.Common.{◌≡◌, ◌+◌, ◌-◌, ◌*◌, lit<, subst, arith}
use Rattle.ja_node_table.specs.Seats.{known}
use Rattle.node_bench.specs.Relations.{IsRest}
use Rattle.node_bench.proofs.Kept.{constant_under}
use Rattle.node_bench.proofs.relations.make_relation.Goals as goal

pub loop-down-init : goal.loop-down-init
loop-down-init c = let at = known c.args.seat.now in (c.requires, record { clean = constant_under at _ _ (lit< tt); tainted = constant_under at _ _ (lit< tt) })

pub loop-down-preserved : goal.loop-down-preserved
loop-down-preserved c =
    let same : 4 * (60 - c.loop-down.down) - 2 ≡ 4 * (60 - (c.loop-down.down + 1)) + 2 = (let lt = c.loop-down-test.true in omega arith) in
    (c.rest_before.ensures.seat, subst (λ var. IsRest (known c.rest_before.new.seat) var c.in-Some.more) same c.in-Some.ensures.rest)

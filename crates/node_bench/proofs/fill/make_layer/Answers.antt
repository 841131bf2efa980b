use Rattle.std.proofs.Common.{◌-◌, sym, subst, arith}
use Rattle.std.specs.List.{All}
use Rattle.std.proofs.lemmas.List.Elements.{All-push}
use Rattle.ja_node_table.specs.Seats.{known}
use Rattle.node_bench.specs.Made.{IsUnder, IsAsked}
use Rattle.node_bench.proofs.Kept.{under_more, under_read, all_under_more, all_asked_more, under_chain}
use Rattle.node_bench.proofs.fill.make_layer.Goals as goal

pub loop-step-preserved : goal.loop-step-preserved
loop-step-preserved c =
    let kept = c.loop-step.invariant in
    let before = known c.loop-step.seat in
    let now = known c.ask.new.seat in
    let grows = c.ask.ensures.grows in
    let var = c.args.var in
    let nodes = c.args.nodes.now in
    let places = c.draw-lo.ensures in
    let low = under_more before now grows var c.index-nodes-lo.result (under_read before var nodes c.draw-lo.result.0 c.index-nodes-lo.result kept.nodes (omega arith) c.index-nodes-lo.is) in
    let high = under_more before now grows var c.index-nodes-hi.result (under_read before var nodes c.draw-lo.result.1 c.index-nodes-hi.result kept.nodes (omega arith) c.index-nodes-hi.is) in
    record {
      seated = c.ask.ensures.seat;
      grows = under_chain (known c.args.seat.now) before now kept.grows grows;
      nodes = all_under_more before now grows var nodes kept.nodes;
      fresh = subst (All (IsUnder now (var - 1))) (sym c.in_ok-push-2.ensures.items)
          (All-push (IsUnder now (var - 1)) c.loop-step.fresh.items c.in-Some.made (all_under_more before now grows (var - 1) c.loop-step.fresh.items kept.fresh) (c.in-Some.ensures.under c.requires.var.0));
      parts = subst (All (IsAsked now)) (sym c.in_ok-push.ensures.items)
          (All-push (IsAsked now) c.loop-step.parts.items _ (all_asked_more before now grows c.loop-step.parts.items kept.parts) record { low = low; high = high });
    }

use Rattle.std.proofs.Common.{ℕ, ◌<◌, ◌-◌, ◌+◌, ◌∷◌, [], length, sym, ap, subst, arith, lit<, length-append}
use Rattle.std.specs.List.{All}
use Rattle.std.proofs.lemmas.List.Elements.{All-append, All-cons, All-nil}
use Rattle.ja_node_core.specs.Node.{Words}
use Rattle.ja_node_core.specs.declared.word.Node.{Node}
use Rattle.ja_node_table.specs.Seats.{known}
use Rattle.node_bench.specs.Made.{IsUnder, IsAsked}
use Rattle.node_bench.proofs.Kept.{all_under_more, all_under_less, constant_under}
use Rattle.node_bench.proofs.fill.fill.Goals as goal

two_constants : (at : Words) (var : ℕ) (zero one : Node) → zero.number < 2 → one.number < 2 → All (IsUnder at var) (zero ∷ one ∷ [])
two_constants at var zero one a b = All-cons (IsUnder at var) zero (one ∷ []) (constant_under at var zero a) (All-cons (IsUnder at var) one [] (constant_under at var one b) (All-nil (IsUnder at var)))

pub loop-layer-init : goal.loop-layer-init
loop-layer-init c =
    let at = known c.args.seat.now in
    let is = c.in_ok-nodes.ensures.items in
    let none = c.new-parts.ensures.items in
    record {
      seated = c.requires;
      several = omega (arith, ap length is);
      nodes = subst (All (IsUnder at 4094)) (sym is) (two_constants at 4094 _ _ (lit< tt) (lit< tt));
      parts = subst (All (IsAsked at)) (sym none) (All-nil (IsAsked at));
    }

pub loop-layer-preserved : goal.loop-layer-preserved
loop-layer-preserved c =
    let kept = c.loop-layer.invariant in
    let now = known c.make_layer.new.seat in
    let layer = c.in_ok-fresh.ensures in
    let less = 4094 - (c.loop-layer.layer + 1) in
    let old : All (IsUnder now less) c.loop-layer.nodes.items = all_under_less now (4094 - c.loop-layer.layer) less c.loop-layer.nodes.items (omega arith) (all_under_more (known c.loop-layer.seat) now layer.grows (4094 - c.loop-layer.layer) c.loop-layer.nodes.items kept.nodes) in
    let new : All (IsUnder now less) c.deref-in-loop-layer.result.now = subst (All (IsUnder now less)) (sym c.deref-in-loop-layer.ensures.value) (all_under_less now (4094 - c.loop-layer.layer - 1) less c.in_ok-fresh.fresh.items (omega arith) layer.nodes) in
    record {
      seated = layer.seat;
      several = (let before = kept.several in omega (arith, ap length c.in_ok-extend_from_slice.ensures.items, length-append c.loop-layer.nodes.items c.deref-in-loop-layer.result.now));
      nodes = subst (All (IsUnder now less)) (sym c.in_ok-extend_from_slice.ensures.items) (All-append (IsUnder now less) c.loop-layer.nodes.items c.deref-in-loop-layer.result.now old new);
      parts = layer.parts;
    }

use Rattle.std.proofs.Common.{◌≡◌, ◌≤◌, ◌+◌, ◌∙◌, List, length, sym, ap, subst}
use Rattle.std.proofs.lemmas.List.{length_push}
use Rattle.ja_ir.specs.declared.method.Method.{Method}
use Rattle.ja_class_tables.proofs.Pools.{grows-on}
use Rattle.ja_class_tables.proofs.Rows.{read-at, slots-more, slots-all, method-size}
use Rattle.ja_class_tables.proofs.slots.slot_names.Goals as goal

pub loop-m-preserved : goal.loop-m-preserved
loop-m-preserved c =
    let old = c.loop-m.pool.sets in
    let new = c.method_slots.new.pool.sets in
    let before = c.loop-m.invariant in
    let grown = c.in_ok-rows.ensures.grows in
    let pushed = c.in_ok-push.ensures.ok in
    record {
      is_pool = c.in_ok-rows.ensures.pool;
      grows = grows-on c.args.pool.now.sets old new before.grows grown;
      size = ap length pushed ∙ length_push c.loop-m.table c.in_ok-rows.rows ∙ ap (λ n. n + 1) before.size;
      named = slots-more c.args.net.now c.args.names.now c.args.graph.now old new c.loop-m.m c.loop-m.table c.push.new.self c.in_ok-rows.rows before.size grown before.named c.in_ok-rows.ensures.named pushed;
    }

pub returns-clause-named : goal.returns-clause-named
returns-clause-named c =
    let items = c.as_slice-method-items.result.now in
    let is : items ≡ c.args.p.now.methods = c.as_slice-method-items.ensures ∙ c.methods.ensures.same in
    slots-all c.args.p.now c.args.net.now c.args.names.now c.args.graph.now c.loop-m.pool.sets c.loop-m.m c.loop-m.table c.requires.room c.loop-m.invariant.size
    (subst (λ (xs : List Method). length xs ≤ c.loop-m.m) is c.loop-m-test.false) c.loop-m.invariant.named

pub method_slots-requires-clause-room : goal.method_slots-requires-clause-room
method_slots-requires-clause-room c =
    let m = c.loop-m.m in
    let item = c.method-item.result in
    let at = read-at c.as_slice-method-items.result.now c.args.p.now.methods m item (c.as_slice-method-items.ensures ∙ c.methods.ensures.same) c.loop-m-test.true c.method-item.is in
    c.requires.room m ∙ method-size c.args.p.now m item at ∙ sym c.len-size.ensures

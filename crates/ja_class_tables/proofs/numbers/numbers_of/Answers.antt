use Rattle.std.proofs.Common.{◌≡◌, ◌≤◌, ◌+◌, ◌∙◌, List, length, ap, subst}
use Rattle.std.proofs.lemmas.List.{length_push}
use Rattle.ja_ir.specs.declared.method.Method.{Method}
use Rattle.ja_class_tables.proofs.Pools.{grows-on}
use Rattle.ja_class_tables.proofs.Rows.{read-at, all-more, all-numbers}
use Rattle.ja_class_tables.proofs.numbers.numbers_of.Goals as goal

pub method_numbers-requires-clause-found : goal.method_numbers-requires-clause-found
method_numbers-requires-clause-found c =
    let items = c.as_slice-method-items.result.now in
    let m = c.loop-m.m in
    let item = c.method-item.result in
    read-at items c.args.p.now.methods m item (c.as_slice-method-items.ensures ∙ c.methods.ensures.same) c.loop-m-test.true c.method-item.is

pub loop-m-preserved : goal.loop-m-preserved
loop-m-preserved c =
    let old = c.loop-m.pool.sets in
    let new = c.method_numbers.new.pool.sets in
    let before = c.loop-m.invariant in
    let grown = c.in_ok-row.ensures.grows in
    let pushed = c.in_ok-push.ensures.ok in
    record {
      is_pool = c.in_ok-row.ensures.pool;
      grows = grows-on c.args.pool.now.sets old new before.grows grown;
      size = ap length pushed ∙ length_push c.loop-m.table c.in_ok-row.row ∙ ap (λ n. n + 1) before.size;
      numbers = all-more c.args.p.now c.args.net.now c.args.part c.args.graph.now old new c.loop-m.m c.loop-m.table c.push.new.self c.in_ok-row.row before.size grown before.numbers c.in_ok-row.ensures.numbers pushed;
    }

pub returns-clause-numbers : goal.returns-clause-numbers
returns-clause-numbers c =
    let items = c.as_slice-method-items.result.now in
    let is : items ≡ c.args.p.now.methods = c.as_slice-method-items.ensures ∙ c.methods.ensures.same in
    all-numbers c.args.p.now c.args.net.now c.args.part c.args.graph.now c.loop-m.pool.sets c.loop-m.m c.loop-m.table c.requires.room c.loop-m.invariant.size
    (subst (λ (xs : List Method). length xs ≤ c.loop-m.m) is c.loop-m-test.false) c.loop-m.invariant.numbers

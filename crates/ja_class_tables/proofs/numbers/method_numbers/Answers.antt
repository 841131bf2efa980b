use Rattle.std.proofs.Common.{◌<◌, ◌≤◌, ◌+◌, ◌∙◌, List, Option, length, ap, subst, arith}
use Rattle.std.proofs.lemmas.List.{length_push}
use Rattle.ja_ir.specs.declared.method.Instr.{Instr}
use Rattle.ja_network.specs.declared.cell.Cell.{Cell}
use Rattle.ja_cells.proofs.Naming.{few-instructions}
use Rattle.ja_class_tables.specs.InnerPool.{IsNumber}
use Rattle.ja_class_tables.proofs.Pools.{grows-on}
use Rattle.ja_class_tables.proofs.Rows.{read-at, numbers-more, numbers-all}
use Rattle.ja_class_tables.proofs.numbers.method_numbers.Goals as goal

pub loop-i-preserved : goal.loop-i-preserved
loop-i-preserved c =
    let items = c.as_slice-instr-items.result.now in
    let i = c.loop-i.i in
    let item = c.instr-item.result in
    let method = c.args.method.now in
    let old = c.loop-i.pool.sets in
    let new = c.number_of.new.pool.sets in
    let before = c.loop-i.invariant in
    let grown = c.in_ok-number.ensures.grows in
    let pushed = c.in_ok-push.ensures.ok in
    let at = read-at items method.code i item (c.as_slice-instr-items.ensures) c.loop-i-test.true c.instr-item.is in
    record {
      is_pool = c.in_ok-number.ensures.pool;
      grows = grows-on c.args.pool.now.sets old new before.grows grown;
      size = ap length pushed ∙ length_push c.loop-i.row c.in_ok-number.number ∙ ap (λ n. n + 1) before.size;
      numbers = numbers-more c.args.p.now c.args.net.now c.args.part c.args.graph.now old new c.args.m i method item c.loop-i.row c.push.new.self c.in_ok-number.number c.requires.found at before.size grown before.numbers
          (subst (λ (cell : Option Cell). IsNumber c.args.net.now new cell c.in_ok-number.number) c.part_of-cell.ensures c.in_ok-number.ensures.number) pushed;
    }

pub returns-clause-numbers : goal.returns-clause-numbers
returns-clause-numbers c =
    let all : length c.args.method.now.code ≤ c.loop-i.i = subst (λ (xs : List Instr). length xs ≤ c.loop-i.i) c.as_slice-instr-items.ensures c.loop-i-test.false in
    numbers-all c.args.p.now c.args.net.now c.args.part c.args.graph.now c.loop-i.pool.sets c.args.m c.loop-i.i c.args.method.now c.loop-i.row c.requires.room c.requires.found c.loop-i.invariant.size all
    c.loop-i.invariant.numbers

pub overflow_cast-i : goal.overflow_cast-i
overflow_cast-i c =
    let lt : c.loop-i.i < length c.args.method.now.code = subst (λ (xs : List Instr). c.loop-i.i < length xs) c.as_slice-instr-items.ensures c.loop-i-test.true in
    omega (arith, few-instructions c.args.p.now c.args.m c.args.method.now c.requires.whole c.requires.found)

use Rattle.std.proofs.Common.{◌≡◌, ◌-◌, suc, List, [], get_or, sym, ap, ◌∙◌, arith}
use Rattle.std.proofs.lemmas.Option.{get_or_from_slice_get}
use Rattle.std.proofs.lemmas.Result.{IfOk-weaker}
use Rattle.ja_network.specs.declared.cell.Cell.{Cell}
use Rattle.ja_cells.specs.Rows.{next_row}
use Rattle.ja_cells.specs.Names.{IsRow, shared}
use Rattle.ja_cells.proofs.Joining.{only_way}
use Rattle.ja_cells.proofs.Naming.{room-before}
use Rattle.ja_cells.proofs.names.row_before.Goals as goal

pub returns-then-goes_on : goal.returns-then-goes_on
returns-then-goes_on c reached =
    let i = c.args.j - 1 in
    let p = c.args.p.now in
    let m = c.args.m in
    let method = c.args.method.now in
    let before = c.at-before.result.now in
    let rows = c.args.rows.now in
    let next : suc i ≡ c.args.j = omega arith in
    let goes = c.goes_on.ensures c.if-goes_on.true in
    let only = only_way p m method c.args.joins.now i c.args.j before c.requires.found c.requires.joins c.at-before.ensures next goes in
    let there : c.as_slice.result.now ≡ get_or rows i [] = c.as_slice.ensures ∙ sym (get_or_from_slice_get rows i c.at-row.result.now [] c.at-row.ensures) in
    IfOk-weaker c.next_row.result (λ (row : List Cell). row ≡ next_row p m i before.op c.as_slice.result.now) (IsRow p m method rows c.args.j c.args.instr.now)
    (λ row is. shared i before next c.at-before.ensures goes.reached only (is ∙ ap (next_row p m i before.op) there)) c.next_row.ensures

pub overflow_add-method-2 : goal.overflow_add-method-2
overflow_add-method-2 c =
    omega (arith, room-before c.args.p.now c.args.m c.args.j c.args.method.now c.args.instr.now c.requires.whole c.requires.found c.requires.at c.if-not-instr.false)

use Rattle.std.proofs.Common.{◌≡◌, ◌+◌, ◌<◌, ◌≤◌, List, [], ◌∷◌, ◌++◌, Some, length, refl, sym, ap, subst, ◌∙◌}
use Rattle.std.specs.Prelude.{slice_get}
use Rattle.std.proofs.lemmas.List.{length_push}
use Rattle.std.proofs.lemmas.Option.{slice_get_read}
use Rattle.ja_ir.specs.declared.method.Instr.{Instr}
use Rattle.ja_cells.specs.Names.{AreRows}
use Rattle.ja_cells.proofs.Naming.{few-instructions, stays-inside, rows-fewer, rows_more}
use Rattle.ja_cells.proofs.names.rows_of.Goals as goal

pub joins_of-requires-clause-few : goal.joins_of-requires-clause-few
joins_of-requires-clause-few c = few-instructions c.args.p.now c.args.m c.args.method.now c.requires.whole c.requires.found

pub joins_of-requires-clause-inside : goal.joins_of-requires-clause-inside
joins_of-requires-clause-inside c = stays-inside c.args.p.now c.args.m c.args.method.now c.requires.whole c.requires.found

pub row_before-requires-clause-at : goal.row_before-requires-clause-at
row_before-requires-clause-at c =
    let items = c.as_slice-instr-items.result.now in
    let j = c.loop-j.j in
    let item = c.instr-item.result in
    let code = c.args.method.now.code in
    let is : items ≡ code = c.as_slice-instr-items.ensures in
    let lt : j < length items = c.loop-j-test.true in
    subst (λ (xs : List Instr). slice_get xs j ≡ Some item) is (slice_get_read items (length items) j item refl lt c.instr-item.is)

pub loop-j-preserved : goal.loop-j-preserved
loop-j-preserved c =
    let items = c.as_slice-instr-items.result.now in
    let j = c.loop-j.j in
    let item = c.instr-item.result in
    let p = c.args.p.now in
    let m = c.args.m in
    let method = c.args.method.now in
    let is : items ≡ method.code = c.as_slice-instr-items.ensures in
    let lt : j < length items = c.loop-j-test.true in
    let at : slice_get method.code j ≡ Some item = subst (λ (xs : List Instr). slice_get xs j ≡ Some item) is (slice_get_read items (length items) j item refl lt c.instr-item.is) in
    let pushed : c.push.new.self ≡ c.loop-j.rows ++ c.in_ok-row.row ∷ [] = c.in_ok-push.ensures.ok in
    record {
      size = ap length pushed ∙ length_push c.loop-j.rows c.in_ok-row.row ∙ ap (λ n. n + 1) c.loop-j.invariant.size;
      rows = subst (AreRows p m method (j + 1)) (sym pushed)
          (rows_more p m method c.loop-j.rows j item c.in_ok-row.row c.loop-j.invariant.size at c.loop-j.invariant.rows (λ reached. c.in_ok-row.ensures reached));
    }

pub returns : goal.returns
returns c =
    let is : c.as_slice-instr-items.result.now ≡ c.args.method.now.code = c.as_slice-instr-items.ensures in
    let all : length c.args.method.now.code ≤ c.loop-j.j = subst (λ (xs : List Instr). length xs ≤ c.loop-j.j) is c.loop-j-test.false in
    rows-fewer c.args.p.now c.args.m c.args.method.now c.loop-j.j (length c.args.method.now.code) c.loop-j.rows all c.loop-j.invariant.rows

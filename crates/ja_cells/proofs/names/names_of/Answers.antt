use Rattle.std.proofs.Common.{◌≡◌, ◌+◌, ◌<◌, List, [], ◌∷◌, ◌++◌, Some, length, refl, sym, ap, subst, ◌∙◌}
use Rattle.std.specs.Prelude.{slice_get}
use Rattle.std.proofs.lemmas.List.{length_push}
use Rattle.std.proofs.lemmas.Option.{slice_get_read}
use Rattle.ja_ir.specs.declared.method.Method.{Method}
use Rattle.ja_cells.specs.Names.{AreNamesBelow}
use Rattle.ja_cells.proofs.Naming.{names_more}
use Rattle.ja_cells.proofs.names.names_of.Goals as goal

pub loop-m-preserved : goal.loop-m-preserved
loop-m-preserved c =
    let items = c.as_slice-method-items.result.now in
    let m = c.loop-m.m in
    let item = c.method-item.result in
    let p = c.args.p.now in
    let is : items ≡ p.methods = c.as_slice-method-items.ensures ∙ c.methods.ensures.same in
    let lt : m < length items = c.loop-m-test.true in
    let at : slice_get p.methods m ≡ Some item = subst (λ (xs : List Method). slice_get xs m ≡ Some item) is (slice_get_read items (length items) m item refl lt c.method-item.is) in
    let pushed : c.push.new.self ≡ c.loop-m.names ++ c.in_ok-rows.rows ∷ [] = c.in_ok-push.ensures.ok in
    record {
      size = ap length pushed ∙ length_push c.loop-m.names c.in_ok-rows.rows ∙ ap (λ n. n + 1) c.loop-m.invariant.size;
      names = subst (AreNamesBelow p (m + 1)) (sym pushed) (names_more p c.loop-m.names m item c.in_ok-rows.rows c.loop-m.invariant.size at c.loop-m.invariant.names c.in_ok-rows.ensures);
    }

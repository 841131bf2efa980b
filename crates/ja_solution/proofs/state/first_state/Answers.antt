use Rattle.std.proofs.Common.{List, length, ap, ◌∙◌, arith}
use Rattle.ja_ir.specs.declared.method.Method.{Method}
use Rattle.ja_ir.specs.declared.class.Field.{Field}
use Rattle.ja_ir.specs.declared.class.ClassInfo.{ClassInfo}
use Rattle.ja_ir.specs.declared.entry.Site.{Site}
use Rattle.ja_solution.proofs.Flagged.{first}
use Rattle.ja_solution.proofs.state.first_state.Goals as goal

pub returns : goal.returns
returns c = λ k. first c.args.given.now c.requires k c.in_ok-cells.cells c.in_ok-dirty.dirty _ c.in_ok-cells.ensures
    (c.len.ensures ∙ ap (λ (xs : List Method). length xs) c.methods.ensures.same) c.len-2.ensures
    (let f = c.len-3.ensures in let g = c.len-4.ensures in let x = ap (λ (xs : List Field). length xs) c.fields.ensures.same in let y = ap (λ (xs : List ClassInfo). length xs) c.classes.ensures.same in omega arith)
    (c.len-5.ensures ∙ ap (λ (xs : List Site). length xs) c.sites.ensures.same) (c.in_ok-dirty.ensures.items_if_clones_equal (λ y e. e))

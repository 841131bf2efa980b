use Rattle.std.proofs.Common.{◌++◌, ◌≡◌, Option, None, sym, ap, ◌∙◌, append-nil}
use Rattle.std.specs.Prelude.{slice_get}
use Rattle.std.proofs.lemmas.Option.{slice_get_past}
use Rattle.ja_ir.specs.declared.method.Method.{Method}
use Rattle.ja_explicit.specs.Tables.{items_of}
use Rattle.ja_explicit.specs.InnerSteps as steps
use Rattle.ja_explicit.proofs.Looping.{past_found}
use Rattle.ja_explicit.proofs.following.add_runs_at.Goals as goal

pub returns-then-m-len : goal.returns-then-m-len
returns-then-m-len c =
    let none : slice_get c.args.p.now.methods c.args.m ≡ None =
    slice_get_past c.args.p.now.methods c.args.m (past_found c.args.p.now.methods c.methods.result.now c.len.result c.args.m c.len.ensures c.methods.ensures.same c.if-m-len.true) in
    sym (append-nil c.args.out.now)
    ∙ ap (λ (o : Option Method). c.args.out.now ++ steps.runs_in c.args.p.now c.args.facts.now (items_of c.args.table.now) c.args.m c.args.index c.args.entry c.args.now o) (sym none)

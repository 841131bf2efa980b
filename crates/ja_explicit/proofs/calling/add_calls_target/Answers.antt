use Rattle.std.proofs.Common.{◌++◌, ◌≡◌, Option, None, map, sym, ap, ◌∙◌, append-nil}
use Rattle.std.specs.Prelude.{slice_get}
use Rattle.std.proofs.lemmas.Option.{slice_get_past}
use Rattle.ja_ir.specs.declared.method.Method.{Method}
use Rattle.ja_tokens.specs.Shapes.{place_meant}
use Rattle.ja_explicit.specs.Tables.{items_of}
use Rattle.ja_explicit.specs.InnerSteps as steps
use Rattle.ja_explicit.specs.InnerRules.{standing}
use Rattle.ja_explicit.proofs.Looping.{past_found}
use Rattle.ja_explicit.proofs.calling.add_calls_target.Goals as goal

pub returns-then-n-len : goal.returns-then-n-len
returns-then-n-len c =
    let none : slice_get c.args.p.now.methods c.args.n ≡ None =
    slice_get_past c.args.p.now.methods c.args.n (past_found c.args.p.now.methods c.methods.result.now c.len.result c.args.n c.len.ensures c.methods.ensures.same c.if-n-len.true) in
    sym (append-nil c.args.out.now)
    ∙ ap (λ (o : Option Method). c.args.out.now ++ steps.calls_method c.args.p.now c.args.facts.now (items_of c.args.table.now) (standing c.args.standing_at.now) c.args.i c.args.next.now (map place_meant c.args.places.now) c.args.call.now c.args.under c.args.n o) (sym none)

use Rattle.std.proofs.Common.{◌++◌, ◌≡◌, Option, None, sym, ap, ◌∙◌, append-nil}
use Rattle.std.specs.Prelude.{slice_get}
use Rattle.std.proofs.lemmas.Option.{slice_get_past}
use Rattle.ja_ir.specs.declared.class.ClassInfo.{ClassInfo}
use Rattle.ja_ir.specs.Initializing.{inits_of_class}
use Rattle.ja_explicit.specs.InnerStarts as starts
use Rattle.ja_explicit.proofs.Looping.{past_found}
use Rattle.ja_explicit.proofs.environment.add_initializers_of.Goals as goal

pub returns-then-class-len : goal.returns-then-class-len
returns-then-class-len c =
    let none : slice_get c.args.p.now.classes c.args.class ≡ None =
    slice_get_past c.args.p.now.classes c.args.class (past_found c.args.p.now.classes c.classes.result.now c.len.result c.args.class c.len.ensures c.classes.ensures.same c.if-class-len.true) in
    sym (append-nil c.args.out.now) ∙ ap (λ (o : Option ClassInfo). c.args.out.now ++ starts.initializers (inits_of_class o)) (sym none)

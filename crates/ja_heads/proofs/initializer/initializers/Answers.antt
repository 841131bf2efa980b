use Rattle.std.proofs.Common.{◌≡◌, ◌++◌, ◌<◌, List, length, get_or, sym, ap, ◌∙◌, arith}
use Rattle.std.proofs.lemmas.List.{get_or_default}
use Rattle.ja_base.specs.declared.id.ClassId.{ClassId}
use Rattle.ja_base.specs.declared.id.MethodId.{MethodId}
use Rattle.ja_heads.specs.Initializers.{initializers_in}
use Rattle.ja_heads.proofs.Initializers.{of_more}
use Rattle.ja_heads.proofs.initializer.initializers.Goals as goal

pub loop-class-preserved : goal.loop-class-preserved
loop-class-preserved c =
    let lt : c.loop-class.class-index < length c.args.classes.now = omega arith in
    let id : ClassId = get_or c.args.classes.now c.loop-class.class-index (record { 0 = 0 }) in
    let read : id ≡ get_or c.args.classes.now c.loop-class.class-index id = get_or_default c.args.classes.now c.loop-class.class-index (record { 0 = 0 }) id lt in
    c.in_ok-add_class.ensures
    ∙ ap (λ (l : List MethodId). l ++ initializers_in c.args.hier.now id.0) c.loop-class.invariant
    ∙ sym (of_more c.args.hier.now c.args.classes.now c.loop-class.class-index id lt read)

use Rattle.std.specs.Prelude.{Some}
use Rattle.std.proofs.lemmas.Option.{IfSome_then}
use Rattle.ja_base.specs.declared.id.MethodId.{MethodId}
use Rattle.ja_hier.specs.InnerIndex.{IsLeftNumber}
use Rattle.ja_hier.specs.LookUps.{FindsDefault}
use Rattle.ja_hier.proofs.MethodWays.{one-left, none-left, two-left}
use Rattle.ja_hier.proofs.methods.default_method.Goals as goal

pub returns-in_default-clause-none : goal.returns-in_default-clause-none
returns-in_default-clause-none c = none-left c.args.tables.now.classes c.args.name.now c.args.desc.now c.args.class c.in_default.ensures.none

pub returns-then-is_alone-clause-some : goal.returns-then-is_alone-clause-some
returns-then-is_alone-clause-some c =
    IfSome_then c.left_method.result {P = λ (m : MethodId). IsLeftNumber c.args.tables.now.classes c.args.name.now c.args.desc.now c.in-Some.interface m.0} {Q = λ (m : MethodId). FindsDefault c.args.tables.now.classes c.args.name.now c.args.desc.now c.args.class (Some m.0)} c.left_method.ensures.some
    (λ m number. one-left c.args.tables.now.classes c.args.name.now c.args.desc.now c.args.class c.in-Some.interface m.0 c.in-Some.ensures.some (c.is_alone.ensures.alone c.if-is_alone.true) number)

pub returns-else-is_alone-clause-none : goal.returns-else-is_alone-clause-none
returns-else-is_alone-clause-none c =
    two-left c.args.tables.now.classes c.args.name.now c.args.desc.now c.args.class c.in-Some.interface c.in-Some.ensures.some (c.is_alone.ensures.others c.if-is_alone.false)

use Rattle.std.proofs.Common.{◌<◌, List, length, ap, subst, arith}
use Rattle.std.specs.Prelude.{IfSome}
use Rattle.ja_ir.specs.declared.head.ClassHead.{ClassHead}
use Rattle.ja_supertypes.proofs.Places.{superclass-read}
use Rattle.ja_supertypes.proofs.Read.{superclass-inside}
use Rattle.ja_supertypes.proofs.classes.Classes.superclass.Goals as goal

pub returns-clause-inside : goal.returns-clause-inside
returns-clause-inside c =
    let lt : c.args.class < length c.self.inside.tables.heads = omega (arith, c.requires, ap (λ (hs : List ClassHead). length hs) c.self.view_is) in
    subst (λ (hs : List ClassHead). IfSome c.at.result.now (λ superclass. superclass < length hs)) c.self.view_is
    (superclass-inside c.self.inside.tables.heads c.args.class c.at.result.now
    (superclass-read c.self.inside.tables.heads c.self.inside.tables.superclasses c.args.class c.at.result.now c.self.invariant.indexed.superclasses c.at.ensures lt))

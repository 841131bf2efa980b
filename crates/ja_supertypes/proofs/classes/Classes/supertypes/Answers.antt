use Rattle.std.proofs.Common.{◌<◌, List, length, ap, subst, arith}
use Rattle.ja_ir.specs.declared.head.ClassHead.{ClassHead}
use Rattle.ja_supertypes.specs.Supertypes.{AreSupertypes}
use Rattle.ja_supertypes.proofs.Read.{supertypes-listed}
use Rattle.ja_supertypes.proofs.classes.Classes.supertypes.Goals as goal

pub returns : goal.returns
returns c =
    let lt : c.args.class < length c.self.inside.tables.heads = omega (arith, c.requires, ap (λ (hs : List ClassHead). length hs) c.self.view_is) in
    subst (λ (hs : List ClassHead). AreSupertypes hs c.args.class c.at.result.now) c.self.view_is
    (supertypes-listed c.self.inside.tables.heads c.self.inside.tables.supertypes c.args.class c.at.result.now c.self.invariant.indexed.supertypes c.at.ensures lt)

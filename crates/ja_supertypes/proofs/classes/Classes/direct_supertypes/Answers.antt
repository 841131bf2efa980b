use Rattle.std.proofs.Common.{◌≡◌, ◌<◌, List, length, ap, subst, arith}
use Rattle.ja_ir.specs.declared.head.ClassHead.{ClassHead}
use Rattle.ja_supertypes.specs.Supertypes.{supertypes_of}
use Rattle.ja_supertypes.proofs.Places.{supertypes-read}
use Rattle.ja_supertypes.proofs.classes.Classes.direct_supertypes.Goals as goal

pub returns : goal.returns
returns c =
    let lt : c.args.class < length c.self.inside.tables.heads = omega (arith, c.requires, ap (λ (hs : List ClassHead). length hs) c.self.view_is) in
    record {
      value = subst (λ (hs : List ClassHead). c.at.result.now ≡ supertypes_of hs c.args.class) c.self.view_is
          (supertypes-read c.self.inside.tables.heads c.self.inside.tables.direct c.args.class c.at.result.now c.self.invariant.indexed.direct c.at.ensures lt);
    }

use Rattle.std.proofs.Common.{◌≡◌, ◌<◌, List, true, length, ap, subst, arith}
use Rattle.ja_ir.specs.declared.head.ClassHead.{ClassHead}
use Rattle.ja_supertypes.specs.Supertypes.{IsSuperclass}
use Rattle.ja_supertypes.proofs.Read.{shown-read}
use Rattle.ja_supertypes.proofs.classes.Classes.is_superclass.Goals as goal

pub returns : goal.returns
returns c =
    let lt : c.args.class < length c.self.inside.tables.heads = omega (arith, c.requires.class, ap (λ (hs : List ClassHead). length hs) c.self.view_is) in
    subst (λ (hs : List ClassHead). (c.contains.result ≡ true → IsSuperclass hs c.args.class c.args.other) × (IsSuperclass hs c.args.class c.args.other → c.contains.result ≡ true)) c.self.view_is
    (shown-read c.self.inside.tables.heads (IsSuperclass c.self.inside.tables.heads) c.self.inside.tables.above_superclasses c.args.class c.args.other c.at.result.now c.contains.result c.self.invariant.indexed.above_superclasses lt c.at.ensures c.contains.ensures)

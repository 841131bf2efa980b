use Rattle.std.proofs.Common.{◌≡◌, ◌<◌, List, true, length, ap, subst, arith}
use Rattle.ja_ir.specs.declared.head.ClassHead.{ClassHead}
use Rattle.ja_supertypes.specs.Supertypes.{IsSuperinterface}
use Rattle.ja_supertypes.proofs.Read.{shown-read}
use Rattle.ja_supertypes.proofs.classes.Classes.is_superinterface.Goals as goal

pub returns : goal.returns
returns c =
    let lt : c.args.class < length c.self.inside.tables.heads = omega (arith, c.requires.class, ap (λ (hs : List ClassHead). length hs) c.self.view_is) in
    subst (λ (hs : List ClassHead). (c.contains.result ≡ true → IsSuperinterface hs c.args.class c.args.other) × (IsSuperinterface hs c.args.class c.args.other → c.contains.result ≡ true)) c.self.view_is
    (shown-read c.self.inside.tables.heads (IsSuperinterface c.self.inside.tables.heads) c.self.inside.tables.superinterfaces c.args.class c.args.other c.at.result.now c.contains.result c.self.invariant.indexed.superinterfaces lt c.at.ensures c.contains.ensures)

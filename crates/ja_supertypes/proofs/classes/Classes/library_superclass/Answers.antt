use Rattle.std.proofs.Common.{◌<◌, ℕ, List, length, ap, ◌∙◌, subst, arith}
use Rattle.ja_ir.specs.declared.head.ClassHead.{ClassHead}
use Rattle.ja_supertypes.specs.InnerIndex.{IsTop}
use Rattle.ja_supertypes.specs.LibraryTypes.{IsNearest}
use Rattle.ja_supertypes.specs.Supertypes.{superclass_name}
use Rattle.ja_supertypes.proofs.Nearest.{top-nearest, top-none}
use Rattle.ja_supertypes.proofs.Read.{top-read, top-inside}
use Rattle.ja_supertypes.proofs.classes.Classes.library_superclass.Goals as goal

pub at-requires : goal.at-requires
at-requires c =
    let lt : c.args.class < length c.self.inside.tables.heads = omega (arith, c.requires, ap (λ (hs : List ClassHead). length hs) c.self.view_is) in
    top-inside c.self.inside.tables.heads c.args.class c.at-top.result.now
    (top-read c.self.inside.tables.heads c.self.inside.tables.tops c.args.class c.at-top.result.now c.self.invariant.indexed.tops c.at-top.ensures lt) lt

pub returns-in-None-clause-none : goal.returns-in-None-clause-none
returns-in-None-clause-none c =
    let lt : c.args.class < length c.self.inside.tables.heads = omega (arith, c.requires, ap (λ (hs : List ClassHead). length hs) c.self.view_is) in
    let top : IsTop c.self.inside.tables.heads c.args.class c.at-top.result.now =
    top-read c.self.inside.tables.heads c.self.inside.tables.tops c.args.class c.at-top.result.now c.self.invariant.indexed.tops c.at-top.ensures lt in
    subst (λ (hs : List ClassHead). (name : List ℕ) → IsNearest hs c.args.class name → ⊥) c.self.view_is
    (top-none c.self.inside.tables.heads c.args.class c.at-top.result.now top (ap superclass_name c.at.ensures ∙ c.in-None.is))

pub returns-in-Some-clause-some : goal.returns-in-Some-clause-some
returns-in-Some-clause-some c =
    let lt : c.args.class < length c.self.inside.tables.heads = omega (arith, c.requires, ap (λ (hs : List ClassHead). length hs) c.self.view_is) in
    let top : IsTop c.self.inside.tables.heads c.args.class c.at-top.result.now =
    top-read c.self.inside.tables.heads c.self.inside.tables.tops c.args.class c.at-top.result.now c.self.invariant.indexed.tops c.at-top.ensures lt in
    subst (λ (hs : List ClassHead). IsNearest hs c.args.class c.in-Some.name) c.self.view_is
    (top-nearest c.self.inside.tables.heads c.args.class c.at-top.result.now c.in-Some.name top (ap superclass_name c.at.ensures ∙ c.in-Some.is))

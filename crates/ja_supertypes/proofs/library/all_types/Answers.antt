use Rattle.std.proofs.Common.{◌≡◌, ◌<◌, ◌++◌, [], ℕ, List, sym, ◌∙◌, subst, arith}
use Rattle.std.specs.Prelude.{IfSome}
use Rattle.std.proofs.lemmas.Result.{IfOk-weaker}
use Rattle.ja_supertypes.specs.InnerIndex.{IsTop}
use Rattle.ja_supertypes.specs.LibraryTypes.{AreLibraryTypes}
use Rattle.ja_supertypes.specs.Supertypes.{superclass_of}
use Rattle.ja_supertypes.specs.InnerTypes.{other_than_object}
use Rattle.ja_supertypes.proofs.Places.{superclass-read}
use Rattle.ja_supertypes.proofs.Read.{superclass-inside, top-read, top-inside}
use Rattle.ja_supertypes.proofs.TypeWays.{all-types}
use Rattle.ja_supertypes.proofs.library.all_types.Goals as goal

pub at-head-requires : goal.at-head-requires
at-head-requires c =
    top-inside c.args.tables.now.heads c.args.class c.at-top.result.now
    (top-read c.args.tables.now.heads c.args.tables.now.tops c.args.class c.at-top.result.now c.requires.indexed.tops c.at-top.ensures c.requires.inside) c.requires.inside

pub add_superclass_types-requires : goal.add_superclass_types-requires
add_superclass_types-requires c =
    subst (λ (n : ℕ). IfSome c.at-superclass.result.now (λ class. class < n)) (sym c.requires.size)
    (superclass-inside c.args.tables.now.heads c.args.class c.at-superclass.result.now
    (superclass-read c.args.tables.now.heads c.args.tables.now.superclasses c.args.class c.at-superclass.result.now c.requires.indexed.superclasses c.at-superclass.ensures c.requires.inside))

pub returns : goal.returns
returns c =
    let top : IsTop c.args.tables.now.heads c.args.class c.at-top.result.now =
    top-read c.args.tables.now.heads c.args.tables.now.tops c.args.class c.at-top.result.now c.requires.indexed.tops c.at-top.ensures c.requires.inside in
    let up : c.at-superclass.result.now ≡ superclass_of c.args.tables.now.heads c.args.class =
    superclass-read c.args.tables.now.heads c.args.tables.now.superclasses c.args.class c.at-superclass.result.now c.requires.indexed.superclasses c.at-superclass.ensures c.requires.inside in
    let empty : c.new-found.result.keys ≡ [] = grind (arith, c.new-found.ensures) in
    let first : List (List ℕ) = other_than_object c.at-head.result.now.superclass in
    IfOk-weaker c.copy_names.result (λ (copy : List (List ℕ)). copy ≡ c.as_slice.result.now) (AreLibraryTypes c.args.tables.now.heads c.args.class)
    (λ names e. all-types c.args.tables.now.heads c.args.class c.at-top.result.now c.at-head.result.now c.args.own.now names c.args.all.now c.at-superclass.result.now top c.at-head.ensures c.requires.own up c.requires.above
    (e ∙ c.as_slice.ensures.keys
    ∙ c.in_ok-add_superclass_types.ensures (first ++ c.args.own.now) (c.in_ok-add_all.ensures first (c.in_ok-add_superclass.ensures [] empty))))
    c.copy_names.ensures

use Rattle.std.proofs.Common.{◌≡◌, ℕ, List, true, subst}
use Rattle.std.specs.Prelude.{Contains}
use Rattle.ja_hier.specs.LookUps.{in_program, in_library, missing}
use Rattle.ja_hier.specs.InnerIndex.{IsDeclaredAbove}
use Rattle.ja_supertypes.proofs.Ranks.{rank_of, rank-falls}
use Rattle.ja_hier.proofs.FieldWays.{finds-nothing}
use Rattle.ja_hier.proofs.fields.find_field.Goals as goal

pub returns-then-is_declared_above : goal.returns-then-is_declared_above
returns-then-is_declared_above c = in_program c.declared_field.ensures

pub returns-then-has_library_supertype : goal.returns-then-has_library_supertype
returns-then-has_library_supertype c =
    let apart : IsDeclaredAbove c.args.tables.now.classes c.args.name.now c.args.desc.now c.args.class → ⊥ =
    λ above. let t : c.is_declared_above.result ≡ true = c.is_declared_above.ensures.1 above in cc (t, c.if-is_declared_above.false) in
    in_library
    (finds-nothing c.args.tables.now.classes c.args.name.now c.args.desc.now (rank_of c.args.tables.now.classes) (rank-falls c.args.tables.now.classes c.requires.indexed.valid.acyclic) c.args.class apart)
    (c.has_library_supertype.ensures.0 c.if-has_library_supertype.true)

pub returns-else-has_library_supertype : goal.returns-else-has_library_supertype
returns-else-has_library_supertype c =
    let apart : IsDeclaredAbove c.args.tables.now.classes c.args.name.now c.args.desc.now c.args.class → ⊥ =
    λ above. let t : c.is_declared_above.result ≡ true = c.is_declared_above.ensures.1 above in cc (t, c.if-is_declared_above.false) in
    missing
    (finds-nothing c.args.tables.now.classes c.args.name.now c.args.desc.now (rank_of c.args.tables.now.classes) (rank-falls c.args.tables.now.classes c.requires.indexed.valid.acyclic) c.args.class apart)
    (λ lib. let t : c.has_library_supertype.result ≡ true = c.has_library_supertype.ensures.1 lib in cc (t, c.if-has_library_supertype.false))

pub fewer-listed-requires-clause-listed_inside : goal.fewer-listed-requires-clause-listed_inside
fewer-listed-requires-clause-listed_inside c = λ d in'.
    c.requires.indexed.fields.inside c.args.name.now d (subst (λ (xs : List ℕ). Contains xs d) c.at-declaring.ensures in')

use Rattle.std.proofs.Common.{◌≡◌, ◌<◌, ◌+◌, ℕ, length, get_or, true, sym, subst, arith}
use Rattle.std.specs.Prelude.{Option}
use Rattle.std.proofs.lemmas.List.Elements.{Contains-get_or}
use Rattle.ja_hier.specs.InnerIndex.{Inherits, IsBelow}
use Rattle.ja_hier.proofs.Lowest.{IsLowestSoFar, if-some, lowest-taken, lowest-passed, lowest-found, lowest-missing}
use Rattle.ja_hier.proofs.MethodWays.{superclass-through, not-nearer, inherits-listed}
use Rattle.ja_supertypes.specs.Supertypes.{IsSuperclass}
use Rattle.ja_supertypes.proofs.Up.{proper-inside}
use Rattle.ja_hier.proofs.methods.nearest.Goals as goal
use Rattle.ja_hier.proofs.methods.nearest.Goals.{then-is_below+then-inherits, else-is_below, else-is_below-via-then-is_below+else-inherits, else-is_below-via-else-is_below}

pub overflow_cast-other : goal.overflow_cast-other
overflow_cast-other c =
    let lt : c.loop-other.other-index < length c.args.listed.now = omega arith in
    let inside : get_or c.args.listed.now c.loop-other.other-index 0 < length c.args.tables.now.classes =
    c.requires.covers.inside (get_or c.args.listed.now c.loop-other.other-index 0) (Contains-get_or c.args.listed.now c.loop-other.other-index 0 lt) in
    omega (arith, inside, c.requires.indexed.numbered.classes)

pub is_below-requires-clause-inside : goal.is_below-requires-clause-inside
is_below-requires-clause-inside c =
    let lt : c.loop-other.other-index < length c.args.listed.now = omega arith in
    c.requires.covers.inside (get_or c.args.listed.now c.loop-other.other-index 0) (Contains-get_or c.args.listed.now c.loop-other.other-index 0 lt)

pub is_below-requires-clause-nearest_inside : goal.is_below-requires-clause-nearest_inside
is_below-requires-clause-nearest_inside c =
    if-some (λ (d : ℕ). d < length c.args.tables.now.classes) c.loop-other.nearest
    (λ d e. proper-inside c.args.tables.now.classes c.args.class d (c.loop-other.invariant.sought d e).superclass)

pub inherits-requires-clause-other_inside : goal.inherits-requires-clause-other_inside
inherits-requires-clause-other_inside c =
    let lt : c.loop-other.other-index < length c.args.listed.now = omega arith in
    c.requires.covers.inside (get_or c.args.listed.now c.loop-other.other-index 0) (Contains-get_or c.args.listed.now c.loop-other.other-index 0 lt)

pub loop-other-preserved : goal.loop-other-preserved
loop-other-preserved c =
    let keep : (nearest : Option ℕ) → nearest ≡ c.loop-other.nearest
    → (IsBelow (IsSuperclass c.args.tables.now.classes) c.loop-other.nearest (get_or c.args.listed.now c.loop-other.other-index 0)
    → Inherits c.args.tables.now.classes c.args.skip c.args.name.now c.args.desc.now c.args.class (get_or c.args.listed.now c.loop-other.other-index 0) → ⊥)
    → IsLowestSoFar (Inherits c.args.tables.now.classes c.args.skip c.args.name.now c.args.desc.now c.args.class) (IsSuperclass c.args.tables.now.classes) c.args.listed.now (c.loop-other.other-index + 1) nearest =
    λ nearest same none.
    subst (IsLowestSoFar (Inherits c.args.tables.now.classes c.args.skip c.args.name.now c.args.desc.now c.args.class) (IsSuperclass c.args.tables.now.classes) c.args.listed.now (c.loop-other.other-index + 1)) (sym same)
    (lowest-passed (Inherits c.args.tables.now.classes c.args.skip c.args.name.now c.args.desc.now c.args.class) (IsSuperclass c.args.tables.now.classes) c.args.listed.now c.loop-other.other-index c.loop-other.nearest
    (not-nearer c.args.tables.now.classes c.args.skip c.args.name.now c.args.desc.now c.args.class (get_or c.args.listed.now c.loop-other.other-index 0) c.loop-other.nearest c.loop-other.invariant.sought none)
    c.loop-other.invariant) in
    elim c.if-is_below.branch [
      | then-is_below+then-inherits w ↦
          subst (IsLowestSoFar (Inherits c.args.tables.now.classes c.args.skip c.args.name.now c.args.desc.now c.args.class) (IsSuperclass c.args.tables.now.classes) c.args.listed.now (c.loop-other.other-index + 1)) (sym w.nearest-is)
          (lowest-taken (Inherits c.args.tables.now.classes c.args.skip c.args.name.now c.args.desc.now c.args.class) (IsSuperclass c.args.tables.now.classes) c.args.listed.now c.loop-other.other-index c.loop-other.nearest
          (superclass-through c.args.tables.now.classes) (c.is_below.ensures.0 w.if-is_below.true) (w.inherits.ensures.0 w.if-inherits.true) c.loop-other.invariant)
      | else-is_below w ↦ elim w.else-is_below.branch [
        | else-is_below-via-then-is_below+else-inherits w' ↦ keep c.if-is_below.nearest w.nearest-is (λ below from. let t : w'.inherits.result ≡ true = w'.inherits.ensures.1 from in cc (t, w'.if-inherits.false))
        | else-is_below-via-else-is_below w' ↦ keep c.if-is_below.nearest w.nearest-is (λ below from. let t : c.is_below.result ≡ true = c.is_below.ensures.1 below in cc (t, w'.if-is_below.false))
      ]
    ]

pub returns-clause-some : goal.returns-clause-some
returns-clause-some c =
    lowest-found (Inherits c.args.tables.now.classes c.args.skip c.args.name.now c.args.desc.now c.args.class) (IsSuperclass c.args.tables.now.classes) c.args.listed.now c.loop-other.other-index c.loop-other.nearest (omega arith)
    (inherits-listed c.args.tables.now.classes c.args.tables.now.methods.classes c.args.skip c.args.name.now c.args.desc.now c.args.class c.args.listed.now c.requires.indexed.methods c.requires.covers) c.loop-other.invariant

pub returns-clause-none : goal.returns-clause-none
returns-clause-none c =
    lowest-missing (Inherits c.args.tables.now.classes c.args.skip c.args.name.now c.args.desc.now c.args.class) (IsSuperclass c.args.tables.now.classes) c.args.listed.now c.loop-other.other-index c.loop-other.nearest (omega arith)
    (inherits-listed c.args.tables.now.classes c.args.tables.now.methods.classes c.args.skip c.args.name.now c.args.desc.now c.args.class c.args.listed.now c.requires.indexed.methods c.requires.covers) c.loop-other.invariant

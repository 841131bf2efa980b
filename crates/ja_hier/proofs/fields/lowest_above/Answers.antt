use Rattle.std.proofs.Common.{◌≡◌, ◌<◌, ◌+◌, ℕ, length, get_or, true, sym, subst, arith}
use Rattle.std.specs.Prelude.{Option}
use Rattle.std.proofs.lemmas.List.Elements.{Contains-get_or}
use Rattle.ja_hier.specs.InnerIndex.{Meets, IsBelow}
use Rattle.ja_hier.proofs.Lowest.{IsLowestSoFar, if-some, lowest-taken, lowest-passed, lowest-found, lowest-missing}
use Rattle.ja_hier.proofs.Straight.{above-inside, straight-above, not-lower, meets-listed}
use Rattle.ja_supertypes.specs.Supertypes.{IsSupertype, through}
use Rattle.ja_supertypes.proofs.Falls.{supertype-target}
use Rattle.ja_hier.proofs.fields.lowest_above.Goals as goal
use Rattle.ja_hier.proofs.fields.lowest_above.Goals.{then-has_above+then-meets, else-has_above, else-has_above-via-then-has_above+else-meets, else-has_above-via-else-has_above}

pub overflow_cast-other : goal.overflow_cast-other
overflow_cast-other c =
    let lt : c.loop-other.other-index < length c.args.listed.now = omega arith in
    let inside : get_or c.args.listed.now c.loop-other.other-index 0 < length c.args.tables.now.classes =
    c.requires.covers.inside (get_or c.args.listed.now c.loop-other.other-index 0) (Contains-get_or c.args.listed.now c.loop-other.other-index 0 lt) in
    omega (arith, inside, c.requires.indexed.numbered.classes)

pub has_above-requires-clause-inside : goal.has_above-requires-clause-inside
has_above-requires-clause-inside c =
    let lt : c.loop-other.other-index < length c.args.listed.now = omega arith in
    c.requires.covers.inside (get_or c.args.listed.now c.loop-other.other-index 0) (Contains-get_or c.args.listed.now c.loop-other.other-index 0 lt)

pub has_above-requires-clause-lowest_inside : goal.has_above-requires-clause-lowest_inside
has_above-requires-clause-lowest_inside c =
    if-some (λ (d : ℕ). d < length c.args.tables.now.classes) c.loop-other.lowest
    (λ d e. supertype-target c.args.tables.now.classes c.args.class d (c.loop-other.invariant.sought d e).between.above)

pub meets-requires-clause-other_inside : goal.meets-requires-clause-other_inside
meets-requires-clause-other_inside c =
    let lt : c.loop-other.other-index < length c.args.listed.now = omega arith in
    c.requires.covers.inside (get_or c.args.listed.now c.loop-other.other-index 0) (Contains-get_or c.args.listed.now c.loop-other.other-index 0 lt)

pub loop-other-preserved : goal.loop-other-preserved
loop-other-preserved c =
    let keep : (lowest : Option ℕ) → lowest ≡ c.loop-other.lowest
    → (IsBelow (IsSupertype c.args.tables.now.classes) c.loop-other.lowest (get_or c.args.listed.now c.loop-other.other-index 0)
    → Meets c.args.tables.now.classes c.args.name.now c.args.desc.now c.args.class c.args.fork (get_or c.args.listed.now c.loop-other.other-index 0) → ⊥)
    → IsLowestSoFar (Meets c.args.tables.now.classes c.args.name.now c.args.desc.now c.args.class c.args.fork) (IsSupertype c.args.tables.now.classes) c.args.listed.now (c.loop-other.other-index + 1) lowest =
    λ lowest same none.
    subst (IsLowestSoFar (Meets c.args.tables.now.classes c.args.name.now c.args.desc.now c.args.class c.args.fork) (IsSupertype c.args.tables.now.classes) c.args.listed.now (c.loop-other.other-index + 1)) (sym same)
    (lowest-passed (Meets c.args.tables.now.classes c.args.name.now c.args.desc.now c.args.class c.args.fork) (IsSupertype c.args.tables.now.classes) c.args.listed.now c.loop-other.other-index c.loop-other.lowest
    (not-lower c.args.tables.now.classes c.args.name.now c.args.desc.now c.args.class c.args.fork (get_or c.args.listed.now c.loop-other.other-index 0) c.loop-other.lowest c.requires.straight c.loop-other.invariant.sought none)
    c.loop-other.invariant) in
    elim c.if-has_above.branch [
      | then-has_above+then-meets w ↦
          subst (IsLowestSoFar (Meets c.args.tables.now.classes c.args.name.now c.args.desc.now c.args.class c.args.fork) (IsSupertype c.args.tables.now.classes) c.args.listed.now (c.loop-other.other-index + 1)) (sym w.lowest-is)
          (lowest-taken (Meets c.args.tables.now.classes c.args.name.now c.args.desc.now c.args.class c.args.fork) (IsSupertype c.args.tables.now.classes) c.args.listed.now c.loop-other.other-index c.loop-other.lowest
          (λ a b d s t. through b s t) (c.has_above.ensures.0 w.if-has_above.true) (w.meets.ensures.0 w.if-meets.true) c.loop-other.invariant)
      | else-has_above w ↦ elim w.else-has_above.branch [
        | else-has_above-via-then-has_above+else-meets w' ↦ keep c.if-has_above.lowest w.lowest-is (λ below from. let t : w'.meets.result ≡ true = w'.meets.ensures.1 from in cc (t, w'.if-meets.false))
        | else-has_above-via-else-has_above w' ↦ keep c.if-has_above.lowest w.lowest-is (λ below from. let t : c.has_above.result ≡ true = c.has_above.ensures.1 below in cc (t, w'.if-has_above.false))
      ]
    ]

pub returns-clause-some : goal.returns-clause-some
returns-clause-some c =
    lowest-found (Meets c.args.tables.now.classes c.args.name.now c.args.desc.now c.args.class c.args.fork) (IsSupertype c.args.tables.now.classes) c.args.listed.now c.loop-other.other-index c.loop-other.lowest (omega arith)
    (meets-listed c.args.tables.now.classes c.args.tables.now.fields.classes c.args.name.now c.args.desc.now c.args.class c.args.fork c.args.listed.now c.requires.indexed.fields c.requires.covers) c.loop-other.invariant

pub returns-clause-none : goal.returns-clause-none
returns-clause-none c =
    lowest-missing (Meets c.args.tables.now.classes c.args.name.now c.args.desc.now c.args.class c.args.fork) (IsSupertype c.args.tables.now.classes) c.args.listed.now c.loop-other.other-index c.loop-other.lowest (omega arith)
    (meets-listed c.args.tables.now.classes c.args.tables.now.fields.classes c.args.name.now c.args.desc.now c.args.class c.args.fork c.args.listed.now c.requires.indexed.fields c.requires.covers) c.loop-other.invariant

pub meets-requires-clause-fork_inside : goal.meets-requires-clause-fork_inside
meets-requires-clause-fork_inside c = above-inside c.args.tables.now.classes c.args.class c.args.fork c.requires.inside (straight-above c.args.tables.now.classes c.args.class c.args.fork c.requires.straight)

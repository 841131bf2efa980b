use Rattle.std.proofs.Common.{◌≡◌, ℕ, ◌<◌, List, length, get_or, true, refl, sym, ◌∙◌, subst, arith, below_more}
use Rattle.std.specs.Prelude.{Contains}
use Rattle.std.proofs.lemmas.Option.{slice_get_within}
use Rattle.std.proofs.lemmas.List.Elements.{Contains-get_or}
use Rattle.ja_supertypes.proofs.Up.{superclass-supertype}
use Rattle.ja_base.specs.Index.{numbers_at}
use Rattle.ja_hier.specs.InnerIndex.{HidesAt}
use Rattle.ja_hier.proofs.Crossings.{crosses-from, crosses-noted}
use Rattle.ja_hier.proofs.Indexed.{at-item}
use Rattle.ja_hier.proofs.crossing.crosses.Goals as goal

pub loop-other-init : goal.loop-other-init
loop-other-init c = λ j lt. absurd (omega arith)

pub overflow_cast-other : goal.overflow_cast-other
overflow_cast-other c =
    let lt : c.loop-other.other-index < length c.fewer-listed.result.now = omega arith in
    let inside : get_or c.fewer-listed.result.now c.loop-other.other-index 0 < length c.args.tables.now.classes =
    c.fewer-listed.ensures.inside (get_or c.fewer-listed.result.now c.loop-other.other-index 0) (Contains-get_or c.fewer-listed.result.now c.loop-other.other-index 0 lt) in
    omega (arith, inside, c.requires.indexed.numbered.classes)

pub hides_at-requires-clause-inside : goal.hides_at-requires-clause-inside
hides_at-requires-clause-inside c = slice_get_within c.args.tables.now.classes c.args.class c.args.head.now c.requires.found

pub hides_at-requires-clause-other_inside : goal.hides_at-requires-clause-other_inside
hides_at-requires-clause-other_inside c =
    let lt : c.loop-other.other-index < length c.fewer-listed.result.now = omega arith in
    let inside : get_or c.fewer-listed.result.now c.loop-other.other-index 0 < length c.args.tables.now.classes =
    c.fewer-listed.ensures.inside (get_or c.fewer-listed.result.now c.loop-other.other-index 0) (Contains-get_or c.fewer-listed.result.now c.loop-other.other-index 0 lt) in
    inside

pub returns-then-hides_at : goal.returns-then-hides_at
returns-then-hides_at c = (
  λ t. crosses-from c.args.tables.now.classes c.args.class c.args.head.now c.args.method.now (get_or c.fewer-listed.result.now c.loop-other.other-index 0)
      (sym c.is_virtual.ensures ∙ c.if-not-is_virtual.false) (c.hides_at.ensures.0 c.if-hides_at.true),
  λ crosses. refl,
)

pub loop-other-preserved : goal.loop-other-preserved
loop-other-preserved c =
    below_more (λ (i : ℕ). HidesAt c.args.tables.now.classes c.args.class c.args.head.now c.args.method.now (get_or c.fewer-listed.result.now i 0) → ⊥) c.loop-other.other-index c.loop-other.invariant
    (λ at. let t : c.hides_at.result ≡ true = c.hides_at.ensures.1 at in cc (t, c.if-hides_at.false))

pub returns : goal.returns
returns c = (
  λ t. absurd (cc t),
  λ crosses.
      let there : (d : ℕ) × Contains (numbers_at c.args.tables.now.methods.classes c.args.method.now.name) d × HidesAt c.args.tables.now.classes c.args.class c.args.head.now c.args.method.now d =
      crosses-noted c.args.tables.now.classes c.args.class c.args.head.now c.args.method.now c.args.tables.now.methods.classes c.requires.indexed.methods crosses in
      absurd (at-item (λ (d : ℕ). HidesAt c.args.tables.now.classes c.args.class c.args.head.now c.args.method.now d → ⊥) c.fewer-listed.result.now (λ j lt. c.loop-other.invariant j (omega arith)) there.0
      (c.fewer-listed.ensures.complete there.0 (superclass-supertype c.args.tables.now.classes c.args.class there.0 there.2.superclass)
      (subst (λ (xs : List ℕ). Contains xs there.0) (sym c.at-declaring.ensures) there.1)) there.2),
)

pub returns-then-is_constructor : goal.returns-then-is_constructor
returns-then-is_constructor c = (λ t. absurd (cc t), λ crosses. absurd (crosses.hides.no_constructor (c.is_constructor.ensures.0 c.if-is_constructor.true)))

pub fewer-listed-requires-clause-inside : goal.fewer-listed-requires-clause-inside
fewer-listed-requires-clause-inside c = slice_get_within c.args.tables.now.classes c.args.class c.args.head.now c.requires.found

pub fewer-listed-requires-clause-listed_inside : goal.fewer-listed-requires-clause-listed_inside
fewer-listed-requires-clause-listed_inside c = λ d in'.
    c.requires.indexed.methods.inside c.args.method.now.name d (subst (λ (xs : List ℕ). Contains xs d) c.at-declaring.ensures in')

use Rattle.std.proofs.Common.{◌≡◌, ℕ, ◌<◌, length, get_or, true, refl, arith, below_more}
use Rattle.std.proofs.lemmas.List.Elements.{Contains-get_or}
use Rattle.ja_hier.specs.InnerIndex.{Overrides}
use Rattle.ja_hier.proofs.MethodWays.{overriding-listed}
use Rattle.ja_hier.proofs.Indexed.{at-item}
use Rattle.ja_hier.proofs.methods.is_overridden.Goals as goal

pub loop-other-init : goal.loop-other-init
loop-other-init c = λ j lt. absurd (omega arith)

pub overflow_cast-other : goal.overflow_cast-other
overflow_cast-other c =
    let lt : c.loop-other.other-index < length c.args.listed.now = omega arith in
    let inside : get_or c.args.listed.now c.loop-other.other-index 0 < length c.args.tables.now.classes =
    c.requires.covers.inside (get_or c.args.listed.now c.loop-other.other-index 0) (Contains-get_or c.args.listed.now c.loop-other.other-index 0 lt) in
    omega (arith, inside, c.requires.indexed.numbered.classes)

pub overrides-requires-clause-other_inside : goal.overrides-requires-clause-other_inside
overrides-requires-clause-other_inside c =
    let lt : c.loop-other.other-index < length c.args.listed.now = omega arith in
    let inside : get_or c.args.listed.now c.loop-other.other-index 0 < length c.args.tables.now.classes =
    c.requires.covers.inside (get_or c.args.listed.now c.loop-other.other-index 0) (Contains-get_or c.args.listed.now c.loop-other.other-index 0 lt) in
    inside

pub returns-then-overrides : goal.returns-then-overrides
returns-then-overrides c = (λ t. (get_or c.args.listed.now c.loop-other.other-index 0, c.overrides.ensures.0 c.if-overrides.true), λ over. refl)

pub loop-other-preserved : goal.loop-other-preserved
loop-other-preserved c =
    below_more (λ (i : ℕ). Overrides c.args.tables.now.classes c.args.name.now c.args.desc.now c.args.class (get_or c.args.listed.now i 0) c.args.interface → ⊥) c.loop-other.other-index c.loop-other.invariant
    (λ over. let t : c.overrides.result ≡ true = c.overrides.ensures.1 over in cc (t, c.if-overrides.false))

pub returns : goal.returns
returns c = (
  λ t. absurd (cc t),
  λ over. absurd (at-item (λ (j : ℕ). Overrides c.args.tables.now.classes c.args.name.now c.args.desc.now c.args.class j c.args.interface → ⊥) c.args.listed.now (λ j lt. c.loop-other.invariant j (omega arith)) over.0
      (overriding-listed c.args.tables.now.classes c.args.tables.now.methods.classes c.args.name.now c.args.desc.now c.args.class over.0 c.args.interface c.args.listed.now c.requires.indexed.methods c.requires.covers over.1) over.1),
)

use Rattle.std.proofs.Common.{◌≡◌, ℕ, ◌<◌, inl, inr, length, get_or, true, refl, sym, ap, ◌∙◌, arith, below_more}
use Rattle.std.specs.Prelude.{Option, Some, is_some}
use Rattle.std.proofs.lemmas.List.Elements.{Contains-get_or}
use Rattle.ja_hier.specs.InnerIndex.{DeclaresFor}
use Rattle.ja_hier.specs.LookUps.{field_in}
use Rattle.ja_hier.proofs.MethodWays.{place-there, is-there}
use Rattle.ja_hier.proofs.Indexed.{at-item, field-noted}
use Rattle.ja_hier.proofs.fields.is_declared_above.Goals as goal

pub loop-other-init : goal.loop-other-init
loop-other-init c = λ j lt. absurd (omega arith)

pub overflow_cast-other : goal.overflow_cast-other
overflow_cast-other c =
    let lt : c.loop-other.other-index < length c.args.listed.now = omega arith in
    let inside : get_or c.args.listed.now c.loop-other.other-index 0 < length c.args.tables.now.classes =
    c.requires.covers.inside (get_or c.args.listed.now c.loop-other.other-index 0) (Contains-get_or c.args.listed.now c.loop-other.other-index 0 lt) in
    omega (arith, inside, c.requires.indexed.numbered.classes)

pub declares_for-requires-clause-other_inside : goal.declares_for-requires-clause-other_inside
declares_for-requires-clause-other_inside c =
    let lt : c.loop-other.other-index < length c.args.listed.now = omega arith in
    let inside : get_or c.args.listed.now c.loop-other.other-index 0 < length c.args.tables.now.classes =
    c.requires.covers.inside (get_or c.args.listed.now c.loop-other.other-index 0) (Contains-get_or c.args.listed.now c.loop-other.other-index 0 lt) in
    inside

pub returns-then-declares_for : goal.returns-then-declares_for
returns-then-declares_for c =
    let for : DeclaresFor c.args.tables.now.classes c.args.name.now c.args.desc.now c.args.class (get_or c.args.listed.now c.loop-other.other-index 0) = c.declares_for.ensures.0 c.if-declares_for.true in
    (λ t. (get_or c.args.listed.now c.loop-other.other-index 0, for.declared.0, for.above, for.declared.1), λ above. refl)

pub loop-other-preserved : goal.loop-other-preserved
loop-other-preserved c =
    below_more (λ (i : ℕ). DeclaresFor c.args.tables.now.classes c.args.name.now c.args.desc.now c.args.class (get_or c.args.listed.now i 0) → ⊥) c.loop-other.other-index c.loop-other.invariant
    (λ for. let t : c.declares_for.result ≡ true = c.declares_for.ensures.1 for in cc (t, c.if-declares_for.false))

pub returns-then-is_some : goal.returns-then-is_some
returns-then-is_some c =
    let place : (k : ℕ) × (field_in c.args.tables.now.classes c.args.name.now c.args.desc.now c.args.class ≡ Some k) =
    place-there _ (ap (λ (o : Option ℕ). is_some o) (sym c.field_in.ensures) ∙ sym c.is_some.ensures ∙ c.if-is_some.true) in
    (λ t. (c.args.class, place.0, inl refl, place.1), λ above. refl)

pub returns : goal.returns
returns c = (
  λ t. absurd (cc t),
  λ above. elim above.2 [
    | inl same ↦
        let place : field_in c.args.tables.now.classes c.args.name.now c.args.desc.now c.args.class ≡ Some above.1 = ap (field_in c.args.tables.now.classes c.args.name.now c.args.desc.now) same ∙ above.3 in
        let t : c.is_some.result ≡ true = c.is_some.ensures ∙ ap (λ (o : Option ℕ). is_some o) c.field_in.ensures ∙ is-there _ (above.1, place) in
        absurd (cc (t, c.if-is_some.false))
    | inr up ↦
        absurd (at-item (λ (e : ℕ). DeclaresFor c.args.tables.now.classes c.args.name.now c.args.desc.now c.args.class e → ⊥) c.args.listed.now (λ j lt. c.loop-other.invariant j (omega arith)) above.0
        (c.requires.covers.complete above.0 up (field-noted c.args.tables.now.classes c.args.tables.now.fields.classes c.args.name.now c.args.desc.now above.0 above.1 c.requires.indexed.fields above.3))
        (record { above = inr up; declared = (above.1, above.3) }))
  ],
)

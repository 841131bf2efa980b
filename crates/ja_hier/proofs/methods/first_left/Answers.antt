use Rattle.std.proofs.Common.{◌≡◌, ℕ, ◌<◌, length, get_or, true, arith, below_more}
use Rattle.std.proofs.lemmas.List.Elements.{Contains-get_or}
use Rattle.ja_hier.specs.InnerIndex.{IsSomeLeft}
use Rattle.ja_hier.proofs.MethodWays.{left-listed}
use Rattle.ja_hier.proofs.Indexed.{at-item}
use Rattle.ja_hier.proofs.methods.first_left.Goals as goal

pub loop-interface-init : goal.loop-interface-init
loop-interface-init c = λ j lt. absurd (omega arith)

pub overflow_cast-interface : goal.overflow_cast-interface
overflow_cast-interface c =
    let lt : c.loop-interface.interface-index < length c.args.listed.now = omega arith in
    let inside : get_or c.args.listed.now c.loop-interface.interface-index 0 < length c.args.tables.now.classes =
    c.requires.covers.inside (get_or c.args.listed.now c.loop-interface.interface-index 0) (Contains-get_or c.args.listed.now c.loop-interface.interface-index 0 lt) in
    omega (arith, inside, c.requires.indexed.numbered.classes)

pub overflow_cast-result : goal.overflow_cast-result
overflow_cast-result c =
    let lt : c.loop-interface.interface-index < length c.args.listed.now = omega arith in
    let inside : get_or c.args.listed.now c.loop-interface.interface-index 0 < length c.args.tables.now.classes =
    c.requires.covers.inside (get_or c.args.listed.now c.loop-interface.interface-index 0) (Contains-get_or c.args.listed.now c.loop-interface.interface-index 0 lt) in
    omega (arith, inside, c.requires.indexed.numbered.classes)

pub is_left-requires-clause-interface_inside : goal.is_left-requires-clause-interface_inside
is_left-requires-clause-interface_inside c =
    let lt : c.loop-interface.interface-index < length c.args.listed.now = omega arith in
    let inside : get_or c.args.listed.now c.loop-interface.interface-index 0 < length c.args.tables.now.classes =
    c.requires.covers.inside (get_or c.args.listed.now c.loop-interface.interface-index 0) (Contains-get_or c.args.listed.now c.loop-interface.interface-index 0 lt) in
    inside

pub loop-interface-preserved : goal.loop-interface-preserved
loop-interface-preserved c =
    below_more (λ (i : ℕ). IsSomeLeft c.args.tables.now.classes c.args.name.now c.args.desc.now c.args.class (get_or c.args.listed.now i 0) → ⊥) c.loop-interface.interface-index c.loop-interface.invariant
    (λ left. let t : c.is_left.result ≡ true = c.is_left.ensures.1 left in cc (t, c.if-is_left.false))

pub returns-clause-none : goal.returns-clause-none
returns-clause-none c = λ i left.
    at-item (λ (j : ℕ). IsSomeLeft c.args.tables.now.classes c.args.name.now c.args.desc.now c.args.class j → ⊥) c.args.listed.now (λ j lt. c.loop-interface.invariant j (omega arith)) i
    (left-listed c.args.tables.now.classes c.args.tables.now.methods.classes c.args.name.now c.args.desc.now c.args.class i c.args.listed.now c.requires.indexed.methods c.requires.covers left) left

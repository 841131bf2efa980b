use Rattle.std.proofs.Common.{◌≡◌, ℕ, ◌<◌, length, get_or, arith, below_more}
use Rattle.std.proofs.lemmas.List.Elements.{Contains-get_or}
use Rattle.ja_hier.specs.InnerIndex.{IsSomeLeft}
use Rattle.ja_hier.proofs.MethodWays.{left-listed}
use Rattle.ja_hier.proofs.Indexed.{at-item}
use Rattle.ja_hier.proofs.methods.is_alone.Goals as goal

pub loop-other-init : goal.loop-other-init
loop-other-init c = λ j lt. absurd (omega arith)

pub overflow_cast-other : goal.overflow_cast-other
overflow_cast-other c =
    let lt : c.loop-other.other-index < length c.args.listed.now = omega arith in
    let inside : get_or c.args.listed.now c.loop-other.other-index 0 < length c.args.tables.now.classes =
    c.requires.covers.inside (get_or c.args.listed.now c.loop-other.other-index 0) (Contains-get_or c.args.listed.now c.loop-other.other-index 0 lt) in
    omega (arith, inside, c.requires.indexed.numbered.classes)

pub is_other_left-requires-clause-other_inside : goal.is_other_left-requires-clause-other_inside
is_other_left-requires-clause-other_inside c =
    let lt : c.loop-other.other-index < length c.args.listed.now = omega arith in
    let inside : get_or c.args.listed.now c.loop-other.other-index 0 < length c.args.tables.now.classes =
    c.requires.covers.inside (get_or c.args.listed.now c.loop-other.other-index 0) (Contains-get_or c.args.listed.now c.loop-other.other-index 0 lt) in
    inside

pub returns-then-is_other_left-clause-others : goal.returns-then-is_other_left-clause-others
returns-then-is_other_left-clause-others c =
    λ no. (get_or c.args.listed.now c.loop-other.other-index 0, c.is_other_left.ensures.left c.if-is_other_left.true, c.is_other_left.ensures.apart c.if-is_other_left.true)

pub loop-other-preserved : goal.loop-other-preserved
loop-other-preserved c =
    below_more (λ (i : ℕ). IsSomeLeft c.args.tables.now.classes c.args.name.now c.args.desc.now c.args.class (get_or c.args.listed.now i 0) → get_or c.args.listed.now i 0 ≡ c.args.interface) c.loop-other.other-index c.loop-other.invariant
    (c.is_other_left.ensures.same c.if-is_other_left.false)

pub returns-clause-alone : goal.returns-clause-alone
returns-clause-alone c = λ yes i left.
    at-item (λ (j : ℕ). IsSomeLeft c.args.tables.now.classes c.args.name.now c.args.desc.now c.args.class j → j ≡ c.args.interface) c.args.listed.now (λ j lt. c.loop-other.invariant j (omega arith)) i
    (left-listed c.args.tables.now.classes c.args.tables.now.methods.classes c.args.name.now c.args.desc.now c.args.class i c.args.listed.now c.requires.indexed.methods c.requires.covers left) left

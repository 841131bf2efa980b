use Rattle.std.proofs.Common.{ℕ, List, get_or, take, subst}
use Rattle.std.proofs.lemmas.List.{get_or_default, take_all}
use Rattle.ja_kinds.specs.Effect.{IsOneOf}
use Rattle.ja_kinds.specs.InnerSolving.{Hands}
use Rattle.ja_kinds.proofs.Hands.{hands_none, hands_more}
use Rattle.ja_kinds.proofs.solve.raise_all.Goals as goal

pub loop-place-init : goal.loop-place-init
loop-place-init c = hands_none c.args.max_locals (λ (p : ℕ). IsOneOf p (take 0 c.args.places.now)) c.args.state.now c.args.states.now c.args.dirty.now c.requires.states (λ n h. h)

pub loop-place-preserved : goal.loop-place-preserved
loop-place-preserved c =
    let i : ℕ = c.loop-place.place-index in
    hands_more c.args.max_locals c.args.state.now c.args.states.now c.loop-place.states c.raise.new.states c.args.dirty.now c.loop-place.dirty c.raise.new.dirty c.loop-place.changed c.in_ok-rose.rose c.args.places.now i
    (get_or c.args.places.now i 0) c.loop-place-test.true (get_or_default c.args.places.now i (get_or c.args.places.now i 0) 0 c.loop-place-test.true)
    c.loop-place.invariant c.in_ok-rose.ensures

pub returns : goal.returns
returns c =
    subst (λ (places : List ℕ). Hands c.args.max_locals (λ (p : ℕ). IsOneOf p places) c.args.state.now c.args.states.now c.loop-place.states c.args.dirty.now c.loop-place.dirty c.loop-place.changed)
    (take_all c.loop-place.place-index c.args.places.now c.loop-place-test.false) c.loop-place.invariant

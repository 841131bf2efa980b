use Rattle.std.proofs.Common.{◌≡◌, true, get_or, set, ap, sym, subst, ◌∙◌}
use Rattle.std.proofs.lemmas.List.{get_or_default}
use Rattle.ja_kinds.specs.declared.state.State.{State}
use Rattle.ja_kinds.specs.declared.state.State.TheVariants.{Unreached}
use Rattle.ja_kinds.specs.InnerMerge.{is_below, merge}
use Rattle.ja_kinds.specs.InnerSolving.{state_at, Hands}
use Rattle.ja_kinds.proofs.Hands.{hands_beyond, hands_nothing, hands_merged}
use Rattle.ja_kinds.proofs.solve.raise.Goals as goal

pub returns-then-place-states : goal.returns-then-place-states
returns-then-place-states c = hands_beyond c.args.max_locals c.args.states.now c.args.dirty.now c.args.state.now c.args.place c.requires.states c.if-place-states.true

pub returns-then-is_below : goal.returns-then-is_below
returns-then-is_below c =
    let read : get_or c.args.states.now c.args.place c.index-states-at.result ≡ state_at c.args.states.now c.args.place =
    get_or_default c.args.states.now c.args.place c.index-states-at.result Unreached c.if-place-states.false in
    hands_nothing c.args.max_locals c.args.states.now c.args.dirty.now c.args.state.now c.args.place c.requires.states
    (ap (is_below c.args.state.now) (sym read) ∙ (sym c.is_below.ensures ∙ c.if-is_below.true))

pub returns : goal.returns
returns c =
    let read : get_or c.args.states.now c.args.place c.index-states-at.result ≡ state_at c.args.states.now c.args.place =
    get_or_default c.args.states.now c.args.place c.index-states-at.result Unreached c.if-place-states.false in
    let again : get_or c.args.states.now c.args.place c.index-states-at-2.result ≡ state_at c.args.states.now c.args.place =
    get_or_default c.args.states.now c.args.place c.index-states-at-2.result Unreached c.if-place-states.false in
    let merged : c.in_ok-merged.merged ≡ merge (state_at c.args.states.now c.args.place) c.args.state.now =
    c.in_ok-merged.ensures ∙ ap (λ (t : State). merge t c.args.state.now) again in
    subst (λ (t : State). Hands c.args.max_locals (λ p. p ≡ c.args.place) c.args.state.now c.args.states.now (set c.args.states.now c.args.place t) c.args.dirty.now (set c.args.dirty.now c.args.place true) true) (sym merged)
    (hands_merged c.args.max_locals c.args.states.now c.args.dirty.now c.args.state.now c.args.place c.requires.states c.requires.state c.requires.dirty c.if-place-states.false
    (ap (is_below c.args.state.now) (sym read) ∙ (sym c.is_below.ensures ∙ c.if-is_below.false)))

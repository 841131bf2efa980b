use Rattle.std.proofs.Common.{◌≡◌, ℕ, Bool, List, length, ap, sym, subst, ◌∙◌}
use Rattle.std.proofs.lemmas.List.{length-replicate}
use Rattle.ja_kinds.specs.declared.state.State.{State}
use Rattle.ja_kinds.specs.declared.state.State.TheVariants.{Unreached}
use Rattle.ja_kinds.specs.Solution.{entry_state}
use Rattle.ja_kinds.specs.InnerSolving.{AreWide, Hands, AreOnTheWay}
use Rattle.ja_kinds.proofs.Effects.{if_ok}
use Rattle.ja_kinds.proofs.Visits.{unreached_wide, entered}
use Rattle.ja_kinds.proofs.sweep.enter.Goals as goal

pub raise-requires-clause-states : goal.raise-requires-clause-states
raise-requires-clause-states c =
    subst (AreWide c.args.frame.now.max_locals) (sym c.requires.states) (unreached_wide c.args.frame.now.max_locals c.args.frame.now.size)

pub returns : goal.returns
returns c = λ pool code.
    let even : length c.args.dirty.now ≡ c.args.frame.now.size =
    c.requires.dirty ∙ (ap length c.requires.states ∙ length-replicate c.args.frame.now.size Unreached) in
    if_ok (Hands c.args.frame.now.max_locals (λ (p : ℕ). p ≡ 0) c.in_ok-entry.entry c.args.states.now c.raise.new.states c.args.dirty.now c.raise.new.dirty)
    (λ (changed : Bool). AreOnTheWay pool code c.args.frame.now c.raise.new.states c.raise.new.dirty) c.raise.result
    (λ changed h. entered pool code c.args.frame.now c.raise.new.states c.args.dirty.now c.raise.new.dirty changed c.requires.some even
    (subst (λ (ss : List State). Hands c.args.frame.now.max_locals (λ (p : ℕ). p ≡ 0) (entry_state c.args.frame.now) ss c.raise.new.states c.args.dirty.now c.raise.new.dirty changed)
    c.requires.states
    (subst (λ (s : State). Hands c.args.frame.now.max_locals (λ (p : ℕ). p ≡ 0) s c.args.states.now c.raise.new.states c.args.dirty.now c.raise.new.dirty changed)
    c.in_ok-entry.ensures h)))
    c.raise.ensures

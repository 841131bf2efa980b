use Rattle.std.proofs.Common.{◌≡◌, false, ℕ}
use Rattle.ja_kinds.specs.Effect.{IsOneOf, targets_of}
use Rattle.ja_code.specs.Behaviour.{branches}
use Rattle.ja_kinds.proofs.Hands.{hands_none, no_targets}
use Rattle.ja_kinds.proofs.solve.raise_targets.Goals as goal

pub returns-then-not-branches : goal.returns-then-not-branches
returns-then-not-branches c =
    let none : branches c.args.behaviour ≡ false = cc in
    hands_none c.args.max_locals (λ (p : ℕ). IsOneOf p (targets_of c.args.behaviour c.args.instr.now)) c.args.state.now c.args.states.now c.args.dirty.now c.requires.states
    (no_targets c.args.behaviour c.args.instr.now none)

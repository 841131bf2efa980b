use Rattle.std.proofs.Common.{◌≡◌, true, ℕ, ◌+◌, inl, inr}
use Rattle.ja_kinds.specs.Effect.{IsOneOf, targets_of, LeadsTo}
use Rattle.ja_code.specs.Behaviour.{goes_on}
use Rattle.ja_kinds.proofs.Hands.{hands_both}
use Rattle.ja_kinds.proofs.solve.raise_after.Goals as goal

pub returns : goal.returns
returns c =
    hands_both c.args.max_locals (λ (p : ℕ). IsOneOf p (targets_of c.args.behaviour c.args.instr.now))
    (λ (p : ℕ). (goes_on c.args.behaviour ≡ true) × (p ≡ c.args.instr.now.pc + c.args.instr.now.length))
    (λ (p : ℕ). LeadsTo c.args.instr.now c.args.behaviour p)
    c.args.state.now c.args.states.now c.raise_targets.new.states c.raise_next.new.states c.args.dirty.now c.raise_targets.new.dirty c.raise_next.new.dirty c.in_ok-branched.branched c.in_ok-went_on.went_on
    c.in_ok-branched.ensures c.in_ok-went_on.ensures (λ n h. h) (λ n h. inl h) (λ n h. inr h)

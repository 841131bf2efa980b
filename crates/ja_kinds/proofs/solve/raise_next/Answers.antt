use Rattle.std.proofs.Common.{◌≡◌, true, false, ℕ, ◌+◌}
use Rattle.ja_code.specs.Behaviour.{goes_on}
use Rattle.ja_kinds.proofs.Hands.{hands_none}
use Rattle.ja_kinds.proofs.solve.raise_next.Goals as goal

pub returns-then-not-goes_on : goal.returns-then-not-goes_on
returns-then-not-goes_on c =
    let none : goes_on c.args.behaviour ≡ false = cc in
    hands_none c.args.max_locals (λ (p : ℕ). (goes_on c.args.behaviour ≡ true) × (p ≡ c.args.instr.now.pc + c.args.instr.now.length)) c.args.state.now c.args.states.now c.args.dirty.now c.requires.states
    (λ n h. let goes : goes_on c.args.behaviour ≡ true = h.0 in cc (goes, none))

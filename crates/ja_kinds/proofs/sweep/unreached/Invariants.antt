use Rattle.std.proofs.Common.{◌≡◌, replicate}
use Rattle.ja_kinds.specs.declared.state.State.TheVariants.{Unreached}
use Rattle.ja_kinds.proofs.sweep.unreached.Given as goal

-- the places so far
abbrev pub invariant-loop : goal.invariant-loop
invariant-loop l = l.states.items ≡ replicate l.counter Unreached

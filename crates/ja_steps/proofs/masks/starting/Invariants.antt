use Rattle.std.proofs.Common.{◌≡◌, ℕ}
use Rattle.std.specs.Prelude.{nat_lt, ◌&&◌}
use Rattle.ja_steps.specs.Inner.{has, is_same, is_any}
use Rattle.ja_steps.proofs.masks.starting.Given as goal

abbrev pub invariant-loop-case : goal.invariant-loop-case
invariant-loop-case l = (k : ℕ) → has l.mask k ≡ (nat_lt k l.case && is_same l.any (is_any k))

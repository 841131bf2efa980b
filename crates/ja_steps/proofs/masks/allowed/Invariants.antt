use Rattle.std.proofs.Common.{◌≡◌, ℕ}
use Rattle.std.specs.Prelude.{nat_lt, ◌&&◌}
use Rattle.ja_steps.specs.Inner.{has, allows_in}
use Rattle.ja_steps.proofs.masks.allowed.Given as goal

abbrev pub invariant-loop-case : goal.invariant-loop-case
invariant-loop-case l = (k : ℕ) → has l.mask k ≡ (nat_lt k l.case && allows_in l.sources l.part k l.before l.after)

use Rattle.std.proofs.Common.{◌≡◌, ◌≤◌, ℕ}
use Rattle.ja_bdd.specs.Variables.{partner_of}
use Rattle.ja_join.proofs.Composing.{earlier_below}
use Rattle.ja_join.proofs.compose.next_as_present.Given as goal

abbrev pub invariant-loop-place : goal.invariant-loop-place
invariant-loop-place l = (v : ℕ) → v ≤ 4094 → partner_of l.renaming v ≡ earlier_below l.place v

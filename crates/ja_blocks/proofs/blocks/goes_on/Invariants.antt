use Rattle.std.specs.Prelude.{◌≡◌, ◌+◌, ℕ, Contains, take}
use Rattle.ja_blocks.proofs.blocks.goes_on.Given as goal

abbrev pub invariant-loop-next : goal.invariant-loop-next
invariant-loop-next l = (j : ℕ) → Contains (take l.next-index l.instr.next) j → j ≡ l.place + 1

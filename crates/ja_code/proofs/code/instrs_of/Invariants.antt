use Rattle.std.proofs.Common.{◌≡◌, ℕ, ◌-◌, ◌≤◌, length, take}
use Rattle.ja_code.specs.Grammar.{AreInstrs, is_start}
use Rattle.ja_code.specs.InnerReading.{marked}
use Rattle.ja_code.proofs.code.instrs_of.Given as goal

-- the code up to pc spells the instructions so far, and their starts are marked
abbrev pub invariant-loop-pc : goal.invariant-loop-pc
invariant-loop-pc l =
    (l.pc ≤ length l.code) × AreInstrs l.tags l.dims 0 (take l.pc l.code) l.instrs
    × (length l.starts.items ≡ length l.code) × ((place : ℕ) → marked l.starts.items place ≡ is_start l.instrs place)

abbrev pub decreases-loop-pc : goal.decreases-loop-pc
decreases-loop-pc l = length l.code - l.pc

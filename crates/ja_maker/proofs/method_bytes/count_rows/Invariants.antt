use Rattle.std.proofs.Common.{◌≡◌, ℕ, ◌+◌, List, length}
use Rattle.ja_assembly.specs.Members.{ranges_in}
use Rattle.ja_maker.proofs.method_bytes.count_rows.Given as goal

-- those so far and those of the rest are all
abbrev pub invariant-loop-item : goal.invariant-loop-item
invariant-loop-item l = (superclass : List ℕ) → l.count + length (ranges_in superclass l.rest) ≡ length (ranges_in superclass l.items)

abbrev pub decreases-loop-item : goal.decreases-loop-item
decreases-loop-item l = length l.rest

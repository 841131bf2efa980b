use Rattle.std.proofs.Common.{◌≡◌, ℕ, List, length}
use Rattle.ja_assembly.specs.Unwritable.{is_some_of}
use Rattle.ja_assembly.specs.Members.{instructions_in}
use Rattle.ja_writable.proofs.judge_item.has_instruction.Given as goal

-- no instruction stands before the rest
abbrev pub invariant-loop-item : goal.invariant-loop-item
invariant-loop-item l = (superclass : List ℕ) → is_some_of (instructions_in superclass l.rest) ≡ is_some_of (instructions_in superclass l.behind)

abbrev pub decreases-loop-item : goal.decreases-loop-item
decreases-loop-item l = length l.rest

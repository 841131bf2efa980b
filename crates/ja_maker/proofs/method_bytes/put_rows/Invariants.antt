use Rattle.std.proofs.Common.{◌≡◌, ℕ, List, ◌++◌, length}
use Rattle.ja_assembly.specs.InnerLabels.{places}
use Rattle.ja_assembly.specs.Members.{ranges_in}
use Rattle.ja_maker.specs.InnerWriting.{pool_in, rows_in}
use Rattle.ja_maker.proofs.method_bytes.put_rows.Given as goal

-- what is written and what the rest asks for are what all items ask for
abbrev pub invariant-loop-item : goal.invariant-loop-item
invariant-loop-item l =
    (superclass : List ℕ)
    → l.out ++ rows_in (pool_in l.pool) (places l.labels) (ranges_in superclass l.rest)
    ≡ l.fn.out ++ rows_in (pool_in l.pool) (places l.labels) (ranges_in superclass l.items)

abbrev pub decreases-loop-item : goal.decreases-loop-item
decreases-loop-item l = length l.rest

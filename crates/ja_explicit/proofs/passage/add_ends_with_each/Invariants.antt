use Rattle.std.proofs.Common.{◌≡◌, ◌++◌, drop}
use Rattle.ja_explicit.specs.InnerSteps as steps
use Rattle.ja_explicit.specs.InnerRules.{standing, passage}
use Rattle.ja_explicit.specs.Tables.{items_of}
use Rattle.ja_explicit.proofs.passage.add_ends_with_each.Given as goal

abbrev pub invariant-loop-k : goal.invariant-loop-k
invariant-loop-k l =
    l.out ++ steps.ends_with_each (standing l.standing_at) (passage l.way) (drop l.k (items_of l.table)) ≡ l.fn.out ++ steps.ends_with_each (standing l.standing_at) (passage l.way) (items_of l.table)

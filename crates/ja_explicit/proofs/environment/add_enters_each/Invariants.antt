use Rattle.std.proofs.Common.{◌≡◌, ◌++◌, drop}
use Rattle.ja_explicit.specs.InnerStarts as starts
use Rattle.ja_explicit.specs.Tables.{items_of}
use Rattle.ja_explicit.proofs.environment.add_enters_each.Given as goal

abbrev pub invariant-loop-entry : goal.invariant-loop-entry
invariant-loop-entry l =
    l.out ++ starts.enters_each l.p l.facts (items_of l.table) (drop l.entry-index l.entries)
    ≡ l.fn.out ++ starts.enters_each l.p l.facts (items_of l.table) l.entries

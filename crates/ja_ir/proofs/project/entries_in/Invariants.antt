use Rattle.std.proofs.Common.{◌≡◌, map, take}
use Rattle.ja_ir.specs.Categories.{entry_in}
use Rattle.ja_ir.proofs.project.entries_in.Given as goal

abbrev pub invariant-loop-entry : goal.invariant-loop-entry
invariant-loop-entry l = l.list ≡ map (entry_in l.category) (take l.entry-index l.entries)

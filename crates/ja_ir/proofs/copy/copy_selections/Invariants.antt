use Rattle.std.proofs.Common.{◌≡◌, take}
use Rattle.ja_ir.proofs.copy.copy_selections.Given as goal

abbrev pub invariant-loop-selection : goal.invariant-loop-selection
invariant-loop-selection l = l.copies ≡ take l.selection-index l.selections

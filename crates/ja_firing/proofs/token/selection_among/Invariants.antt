use Rattle.std.proofs.Common.{◌≡◌, drop}
use Rattle.ja_ir.specs.Lookup as lookup
use Rattle.ja_firing.proofs.token.selection_among.Given as goal

-- none of those so far has the name and the descriptor
abbrev pub invariant-loop-selection : goal.invariant-loop-selection
invariant-loop-selection l = lookup.selection_among l.name l.desc (drop l.selection-index l.selections) ≡ lookup.selection_among l.name l.desc l.selections

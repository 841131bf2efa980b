use Rattle.std.proofs.Common.{◌≡◌, ℕ, List, length}
use Rattle.ja_assembly.specs.Members.{place_of_label, instructions_in}
use Rattle.ja_assembly.specs.InnerLabels.{places, or_else}
use Rattle.ja_assembly.proofs.labels.labels_of.Given as goal

-- a label stands before the rest, or in it
abbrev pub invariant-loop-item : goal.invariant-loop-item
invariant-loop-item l =
    (superclass name : List ℕ)
    → or_else (places l.labels name) (place_of_label l.place (instructions_in superclass l.rest) name) ≡ place_of_label l.pc (instructions_in superclass l.items) name

abbrev pub decreases-loop-item : goal.decreases-loop-item
decreases-loop-item l = length l.rest

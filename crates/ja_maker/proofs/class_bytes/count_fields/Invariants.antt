use Rattle.std.proofs.Common.{◌≡◌, ℕ, ◌+◌, List, length}
use Rattle.std.specs.List.{flat_map}
use Rattle.ja_assembly.specs.Members.{expanded, fields}
use Rattle.ja_maker.proofs.class_bytes.count_fields.Given as goal

-- those so far and those of the rest are all
abbrev pub invariant-loop-item : goal.invariant-loop-item
invariant-loop-item l =
    (superclass : List ℕ)
    → l.count + length (fields (flat_map (expanded superclass) l.rest)) ≡ length (fields (flat_map (expanded superclass) l.items))

abbrev pub decreases-loop-item : goal.decreases-loop-item
decreases-loop-item l = length l.rest

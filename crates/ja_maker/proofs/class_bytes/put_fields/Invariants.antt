use Rattle.std.proofs.Common.{◌≡◌, ℕ, ◌++◌, List, length, map}
use Rattle.std.specs.List.{flat_map}
use Rattle.ja_class.specs.ClassFile.{member_bytes}
use Rattle.ja_assembly.specs.Members.{expanded, fields}
use Rattle.ja_assembly.specs.Assembled.{field_info}
use Rattle.ja_maker.specs.InnerWriting.{pool_in}
use Rattle.ja_maker.proofs.class_bytes.put_fields.Given as goal

-- those so far and those of the rest are all
abbrev pub invariant-loop-item : goal.invariant-loop-item
invariant-loop-item l =
    (superclass : List ℕ)
    → l.out ++ flat_map member_bytes (map (field_info (pool_in l.pool)) (fields (flat_map (expanded superclass) l.rest)))
    ≡ l.fn.out ++ flat_map member_bytes (map (field_info (pool_in l.pool)) (fields (flat_map (expanded superclass) l.items)))

abbrev pub decreases-loop-item : goal.decreases-loop-item
decreases-loop-item l = length l.rest

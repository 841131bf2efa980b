use Rattle.std.proofs.Common.{◌≡◌, ◌++◌, length, map}
use Rattle.std.specs.List.{flat_map}
use Rattle.ja_class.specs.ClassFile.{member_bytes}
use Rattle.ja_assembly.specs.Members.{expanded, methods}
use Rattle.ja_assembly.specs.Assembled.{method_info}
use Rattle.ja_maker.specs.InnerWriting.{pool_in}
use Rattle.ja_maker.proofs.constructor_bytes.put_methods.Given as goal

-- those so far and those of the rest are all
abbrev pub invariant-loop-item : goal.invariant-loop-item
invariant-loop-item l =
    l.out ++ flat_map member_bytes (map (method_info (pool_in l.pool)) (methods (flat_map (expanded l.superclass) l.rest)))
    ≡ l.fn.out ++ flat_map member_bytes (map (method_info (pool_in l.pool)) (methods (flat_map (expanded l.superclass) l.items)))

abbrev pub decreases-loop-item : goal.decreases-loop-item
decreases-loop-item l = length l.rest

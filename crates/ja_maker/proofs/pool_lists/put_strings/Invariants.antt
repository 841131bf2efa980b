use Rattle.std.proofs.Common.{◌≡◌, ◌-◌, ◌≤◌, ◌++◌, length, take, map}
use Rattle.std.specs.List.{flat_map}
use Rattle.ja_pool.specs.Entry.{spelling}
use Rattle.ja_assembly.specs.Assembled.{string_entry}
use Rattle.ja_maker.specs.InnerWriting.{pool_in}
use Rattle.ja_maker.proofs.pool_lists.put_strings.Given as goal

-- the entries so far are written
abbrev pub invariant-loop-text : goal.invariant-loop-text
invariant-loop-text l = (l.out ≡ l.fn.out ++ flat_map spelling (map (string_entry (pool_in l.pool)) (take l.place l.pool.strings.keys))) × (l.place ≤ length l.pool.strings.keys)

abbrev pub decreases-loop-text : goal.decreases-loop-text
decreases-loop-text l = length l.pool.strings.keys - l.place

use Rattle.std.proofs.Common.{◌≡◌, ◌-◌, ◌≤◌, ◌++◌, length, take, map}
use Rattle.std.specs.List.{flat_map}
use Rattle.ja_pool.specs.Entry.{spelling}
use Rattle.ja_assembly.specs.Assembled.{key_entry}
use Rattle.ja_maker.specs.InnerWriting.{pool_in}
use Rattle.ja_maker.proofs.pool_lists.put_keys.Given as goal

-- the entries so far are written
abbrev pub invariant-loop-key : goal.invariant-loop-key
invariant-loop-key l = (l.out ≡ l.fn.out ++ flat_map spelling (map (key_entry (pool_in l.pool)) (take l.place l.pool.keys.keys))) × (l.place ≤ length l.pool.keys.keys)

abbrev pub decreases-loop-key : goal.decreases-loop-key
decreases-loop-key l = length l.pool.keys.keys - l.place

use Rattle.std.proofs.Common.{◌+◌, ◌-◌, vec_len}
use Rattle.ja_io.specs.declared.walk.TheConstants.{MAX_ENTRIES}
use Rattle.ja_io.proofs.walk.names_below.Given as goal

-- the directories that wait, and the entries that may still be met
abbrev pub decreases-loop-below : goal.decreases-loop-below
decreases-loop-below g l = vec_len l.walk.pending + (MAX_ENTRIES - l.walk.met)

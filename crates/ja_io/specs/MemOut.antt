-- The sink in memory: it takes bytes in steps while there is room, and writes with a number that was named fail.
use Rattle.std.specs.Prelude.{ℕ, Bool, List, ◌++◌, ◌-◌, ◌||◌, nat_le, min, length, take, if◌then◌else◌}
use Rattle.ja_io.specs.Count.{one_more, next_is_among}

-- the bytes that were written, the most bytes of one write and of all, the numbers of the writes that fail,
-- and how many writes and faults there were
pub record OutState : Type 0 where
  pub written : List ℕ
  pub step : ℕ
  pub room : ℕ
  pub fails : List ℕ
  pub writes : ℕ
  pub faults : ℕ

-- the next write fails: it has one of the numbers that fail, or the room is used up
abbrev pub write_fails : OutState → Bool
write_fails s = next_is_among s.fails s.writes || nat_le s.room (length s.written)

-- how many bytes of a piece a write takes that does not fail
abbrev pub taken_count : OutState → List ℕ → ℕ
taken_count s piece = min s.step (min (length piece) (s.room - length s.written))

-- the sink after its next write, of this piece
abbrev pub after_write : OutState → List ℕ → OutState
after_write s piece =
    if write_fails s
    then record s { writes = one_more s.writes; faults = one_more s.faults }
    else record s { writes = one_more s.writes; written = s.written ++ take (taken_count s piece) piece }

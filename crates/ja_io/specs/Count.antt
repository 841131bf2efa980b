-- Calls that are counted and numbered.
use Rattle.std.specs.Prelude.{ℕ, Bool, List, ◌+◌, ◌-◌, ◌^◌, ◌==◌, min}
use Rattle.std.specs.List.{list_any}

-- a count after one more: it stands still at the last value of its 64 bits
abbrev pub one_more : ℕ → ℕ
one_more n = min (n + 1) (2 ^ 64 - 1)

-- the next call has one of these numbers, where calls are numbered from 1
abbrev pub next_is_among : List ℕ → ℕ → Bool
next_is_among numbers calls = list_any (λ number. number == one_more calls) numbers

use Rattle.std.proofs.Common.{◌≡◌, ℕ, ◌+◌, length, drop}
use Rattle.ja_writable.specs.InnerJudging.{IsState, IsClean, IsSmall}
use Rattle.ja_writable.proofs.judge_class.judge_rest.Given as goal

-- the first k items behind the one that begins the class can be written, and are known
abbrev pub invariant-loop-item : goal.invariant-loop-item
invariant-loop-item l =
    ((k : ℕ) × (l.rest ≡ drop k l.listing.items) × (l.number ≡ l.listing.number + k) × IsState l.listing k l.place l.wants × IsClean l.listing k)
    × IsSmall l.place

abbrev pub decreases-loop-item : goal.decreases-loop-item
decreases-loop-item l = length l.rest

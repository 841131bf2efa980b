use Rattle.std.proofs.Common.{◌≡◌, ℕ, ◌<◌, length, get_or, take}
use Rattle.std.specs.Prelude.{sum_by}
use Rattle.ja_hier.specs.Members.{count_of}
use Rattle.ja_hier.proofs.starts.starts.Given as goal

abbrev pub invariant-loop-head : goal.invariant-loop-head
invariant-loop-head l = record {
  size : length l.starts ≡ l.head-index;
  each : (c : ℕ) → c < l.head-index → get_or l.starts c 0 ≡ sum_by (count_of l.member) (take c l.heads);
  total : l.total ≡ sum_by (count_of l.member) (take l.head-index l.heads);
}

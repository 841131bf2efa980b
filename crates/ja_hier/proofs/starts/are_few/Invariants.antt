use Rattle.std.proofs.Common.{◌≡◌, ◌+◌, take}
use Rattle.std.specs.Prelude.{sum_by}
use Rattle.ja_hier.specs.Members.{count_of}
use Rattle.ja_hier.proofs.starts.are_few.Given as goal

abbrev pub invariant-loop-head : goal.invariant-loop-head
invariant-loop-head l = l.left + sum_by (count_of l.member) (take l.head-index l.heads) ≡ 67108864

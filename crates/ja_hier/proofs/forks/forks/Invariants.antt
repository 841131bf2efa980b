use Rattle.std.proofs.Common.{◌≡◌, ℕ, ◌<◌, get_or, length}
use Rattle.ja_hier.specs.InnerIndex.{IsStraight}
use Rattle.ja_hier.proofs.forks.forks.Given as goal

abbrev pub invariant-loop-class : goal.invariant-loop-class
invariant-loop-class l = record {
  size : length l.forks ≡ l.class;
  each : (c : ℕ) → c < l.class → IsStraight l.classes c (get_or l.forks c 0);
}

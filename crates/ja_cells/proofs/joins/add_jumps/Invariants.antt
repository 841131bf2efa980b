use Rattle.std.proofs.Common.{◌≡◌, ℕ, ◌+◌, ◌<◌, get_or}
use Rattle.ja_sets.specs.Sets.{Has}
use Rattle.ja_cells.specs.Joins.{Keeps}
use Rattle.ja_cells.proofs.joins.add_jumps.Given as goal

abbrev pub invariant-loop-target : goal.invariant-loop-target
invariant-loop-target l = record {
  keeps : Keeps l.fn.joins l.joins;
  jumps : (k : ℕ) → k < l.target-index → (get_or l.next k 0 ≡ l.index + 1 → ⊥) → Has l.joins (get_or l.next k 0);
}

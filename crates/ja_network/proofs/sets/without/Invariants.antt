use Rattle.std.proofs.Common.{◌≡◌, ◌↔◌, ℕ, ◌<◌, ◌≤◌, length}
use Rattle.ja_sets.specs.Sets.{Has, Lacks}
use Rattle.ja_network.proofs.sets.without.Given as goal

abbrev pub invariant-loop-i : goal.invariant-loop-i
invariant-loop-i l = record {
  left : (t : ℕ) → Has l.rest t ↔ (t < l.from × Has l.set t × Lacks l.other t);
  size : length l.rest ≡ l.n;
  far : l._i ≤ l.from;
  within : l.from ≤ l.n;
}

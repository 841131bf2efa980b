use Rattle.std.proofs.Common.{◌≡◌, ◌⊎◌, ◌↔◌, ℕ, ◌<◌, ◌≤◌, length}
use Rattle.ja_sets.specs.Sets.{Has}
use Rattle.ja_holds.proofs.sets.add_members.Given as goal

abbrev pub invariant-loop-i : goal.invariant-loop-i
invariant-loop-i l = record {
  has : (x : ℕ) → Has l.to x ↔ (Has l.initial.to x ⊎ (Has l.set x × (x < l.from)));
  size : length l.to ≡ l.n;
  far : l._i ≤ l.from;
  within : l.from ≤ l.n;
}

use Rattle.std.proofs.Common.{◌≡◌, ℕ, ◌<◌, ◌≤◌, false, length}
use Rattle.ja_sets.specs.Sets.{Has}
use Rattle.ja_network.specs.Cells.{Gains}
use Rattle.ja_network.proofs.state.gain.Given as goal

abbrev pub invariant-loop-i : goal.invariant-loop-i
invariant-loop-i l = record {
  gained : Gains l.fn.state l.state (λ t. Has l.set t × (t < l.from));
  old : l.changed ≡ false → (t : ℕ) → Has l.set t → t < l.from → Has l.fn.state.has t;
  has : length l.state.has ≡ l.n;
  fresh : length l.state.fresh ≡ l.n;
  far : l._i ≤ l.from;
  within : l.from ≤ l.n;
}

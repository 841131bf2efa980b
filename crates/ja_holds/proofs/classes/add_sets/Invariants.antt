use Rattle.std.proofs.Common.{◌≡◌, ◌⊎◌, ◌↔◌, ℕ, length}
use Rattle.ja_sets.specs.Sets.{Has}
use Rattle.ja_holds.specs.Inner.{InSets}
use Rattle.ja_holds.proofs.classes.add_sets.Given as goal

abbrev pub invariant-loop-class : goal.invariant-loop-class
invariant-loop-class l = record {
  size : length l.to ≡ l.n;
  has : (x : ℕ) → Has l.to x ↔ (Has l.initial.to x ⊎ InSets l.rows l.classes l.class-index x);
}

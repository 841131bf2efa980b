use Rattle.std.proofs.Common.{◌≡◌, ℕ, ◌<◌, false}
use Rattle.ja_facts.specs.Told.{TellsGraph}
use Rattle.ja_effects.specs.Inner.{IsClosedAt}
use Rattle.ja_effects.specs.Stages.{Stage}
use Rattle.ja_effects.proofs.solve.round.Given as goal

abbrev pub invariant-loop-m : goal.invariant-loop-m
invariant-loop-m l = record {
  stage : Stage l.p l.g l.s l.fn.effects l.effects l.changed;
  closed : l.changed ≡ false → (k : ℕ) → k < l.m → (i : ℕ) → IsClosedAt l.p (TellsGraph l.p l.g) l.s l.effects k i;
}

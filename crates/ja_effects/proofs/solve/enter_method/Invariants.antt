use Rattle.std.proofs.Common.{◌≡◌, ℕ, ◌<◌, false}
use Rattle.ja_facts.specs.Told.{TellsGraph}
use Rattle.ja_effects.specs.Inner.{IsClosedAt}
use Rattle.ja_effects.specs.Stages.{Stage}
use Rattle.ja_effects.proofs.solve.enter_method.Given as goal

abbrev pub invariant-loop-i : goal.invariant-loop-i
invariant-loop-i l = record {
  stage : Stage l.p l.g l.s l.fn.effects l.effects l.changed;
  closed : l.changed ≡ false → (k : ℕ) → k < l.i → IsClosedAt l.p (TellsGraph l.p l.g) l.s l.effects l.m k;
}

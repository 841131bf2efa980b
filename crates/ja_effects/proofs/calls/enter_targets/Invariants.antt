use Rattle.std.proofs.Common.{◌≡◌, ℕ, ◌<◌, Some, false}
use Rattle.std.specs.Prelude.{slice_get}
use Rattle.ja_ir.specs.Operations.{arguments}
use Rattle.ja_facts.specs.ClassSets.{CallsMethod}
use Rattle.ja_facts.specs.Told.{TellsGraph}
use Rattle.ja_effects.specs.Inner.{IsPassed}
use Rattle.ja_effects.specs.Stages.{Stage}
use Rattle.ja_effects.proofs.calls.enter_targets.Given as goal

abbrev pub invariant-loop-n : goal.invariant-loop-n
invariant-loop-n l = record {
  stage : Stage l.p l.g l.s l.fn.effects l.effects l.changed;
  closed : l.changed ≡ false → (k : ℕ) → k < l.n-index → (n : ℕ) → slice_get l.targets k ≡ Some n → TellsGraph l.p l.g (CallsMethod l.m l.i n) → IsPassed l.p l.s l.effects l.m l.i n (arguments l.call) l.under;
}

use Rattle.std.proofs.Common.{◌≡◌, ℕ, ◌<◌, Some, false}
use Rattle.std.specs.Prelude.{slice_get}
use Rattle.ja_base.specs.declared.id.MethodId.{MethodId}
use Rattle.ja_effects.specs.Inner.{IsPassed}
use Rattle.ja_effects.specs.Stages.{Stage}
use Rattle.ja_effects.proofs.calls.enter_initializers.Given as goal

abbrev pub invariant-loop-n : goal.invariant-loop-n
invariant-loop-n l = record {
  stage : Stage l.p l.g l.s l.fn.effects l.effects l.changed;
  closed : l.changed ≡ false → (k : ℕ) → k < l.n-index → (n : MethodId) → slice_get l.list k ≡ Some n → IsPassed l.p l.s l.effects l.m l.i n.0 0 l.instr.height;
}

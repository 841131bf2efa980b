use Rattle.std.proofs.Common.{◌≡◌}
use Rattle.ja_names.specs.Tables.{HasFlags}
use Rattle.ja_effects.specs.Inner.{Gains, ReachesSource}
use Rattle.ja_effects.proofs.library.touch_arguments.Given as goal

abbrev pub invariant-loop-x : goal.invariant-loop-x
invariant-loop-x l = record {
  flags : HasFlags l.p l.effects;
  gains : Gains l.p l.initial.effects l.effects (λ n r. (n ≡ l.m) × ReachesSource l.p l.s l.m l.i l.under l.x r);
}

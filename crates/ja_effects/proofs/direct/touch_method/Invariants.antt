use Rattle.std.proofs.Common.{◌≡◌}
use Rattle.ja_facts.specs.Told.{TellsGraph}
use Rattle.ja_names.specs.Tables.{HasFlags}
use Rattle.ja_effects.specs.Inner.{Gains, DirectBelow}
use Rattle.ja_effects.proofs.direct.touch_method.Given as goal

abbrev pub invariant-loop-i : goal.invariant-loop-i
invariant-loop-i l = record {
  flags : HasFlags l.p l.effects;
  gains : Gains l.p l.initial.effects l.effects (λ n r. (n ≡ l.m) × DirectBelow l.p (TellsGraph l.p l.g) l.s l.m l.i r);
}

use Rattle.std.proofs.Common.{◌<◌}
use Rattle.ja_facts.specs.Told.{TellsGraph}
use Rattle.ja_names.specs.Tables.{HasFlags}
use Rattle.ja_effects.specs.Inner.{Gains, HasDirect}
use Rattle.ja_effects.proofs.direct.touch_all.Given as goal

abbrev pub invariant-loop-m : goal.invariant-loop-m
invariant-loop-m l = record {
  flags : HasFlags l.p l.effects;
  gains : Gains l.p l.initial.effects l.effects (λ n r. (n < l.m) × HasDirect l.p (TellsGraph l.p l.g) l.s n r);
}

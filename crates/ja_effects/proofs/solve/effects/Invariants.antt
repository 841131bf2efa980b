use Rattle.ja_facts.specs.Told.{TellsGraph}
use Rattle.ja_names.specs.Tables.{HasFlags}
use Rattle.ja_effects.specs.Inner.{IsSound, HasAllDirect, lacking}
use Rattle.ja_effects.proofs.solve.effects.Given as goal

abbrev pub invariant-rounds : goal.invariant-rounds
invariant-rounds l = record {
  flags : HasFlags l.p l.effects;
  sound : IsSound l.p l.g l.s l.effects;
  direct : HasAllDirect l.p (TellsGraph l.p l.g) l.s l.effects;
}

abbrev pub decreases-rounds : goal.decreases-rounds
decreases-rounds l = lacking l.effects

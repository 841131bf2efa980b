use Rattle.std.proofs.Common.{subst, sym}
use Rattle.ja_facts.specs.Held.{Cell, FieldHolds}
use Rattle.ja_facts.specs.Analyses.{Helds}
use Rattle.ja_examples.specs.Building.{building}
use Rattle.ja_examples.proofs.Built as facts
use Rattle.ja_examples.proofs.Holding.{only_bags}
use Rattle.ja_examples.proofs.law.law_building.Goals as goal

pub returns : goal.returns
returns c = record {
  met = facts.met;
  stored = facts.in_bags;
  held = λ cell. (only_bags cell, λ e. subst (λ (it : Cell). Helds building (FieldHolds 0 it)) (sym e) facts.field_holds);
  appended = facts.appended;
  read = facts.read;
  warned = facts.warned;
}

use Rattle.std.proofs.Common.{◌≡◌, ◌<◌, ◌≤◌, true, false}
use Rattle.ja_facts.specs.Sharing.{Name}
use Rattle.ja_facts.specs.Told.{IsNamed}
use Rattle.ja_names.specs.Tables.{HasFlags}
use Rattle.ja_effects.specs.Inner.{Gains, IsTouched, lacking}
use Rattle.ja_effects.proofs.marks.touch.Given as goal

abbrev pub invariant-loop-k : goal.invariant-loop-k
invariant-loop-k l = record {
  flags : HasFlags l.p l.effects;
  gains : (a : Name) → IsNamed l.method a l.x → Gains l.p l.initial.effects l.effects (IsTouched l.p l.s l.m l.i l.method a l.k);
  idle : l.changed ≡ false → l.effects ≡ l.initial.effects;
  steady : lacking l.effects ≤ lacking l.initial.effects;
  falls : l.changed ≡ true → lacking l.effects < lacking l.initial.effects;
}

use Rattle.ja_effects.specs.Stages.{Passes}
use Rattle.ja_effects.proofs.enter.pass_all.Given as goal

abbrev pub invariant-loop-a : goal.invariant-loop-a
invariant-loop-a l = Passes l.p l.g l.s l.m l.i l.n l.under l.a l.fn.effects l.effects l.changed

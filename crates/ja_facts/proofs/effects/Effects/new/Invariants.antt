use Rattle.std.proofs.Common.{◌≡◌, map, take}
use Rattle.ja_facts.specs.FactTables.{no_effects_of}
use Rattle.ja_facts.proofs.effects.Effects.new.Given as goal

abbrev pub invariant-loop-method : goal.invariant-loop-method
invariant-loop-method l = l.flags ≡ map no_effects_of (take l.method-index l.p.methods)

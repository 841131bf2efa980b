use Rattle.std.proofs.Common.{◌≡◌, map, take}
use Rattle.ja_facts.specs.Shared.{zero_slots_of}
use Rattle.ja_facts.proofs.build.slot_names.Given as goal

abbrev pub invariant-loop-method : goal.invariant-loop-method
invariant-loop-method l = l.table ≡ map zero_slots_of (take l.method-index l.p.methods)

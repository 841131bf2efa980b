use Rattle.ja_class_tables.specs.InnerMembers.{HasBags}
use Rattle.ja_class_tables.proofs.members.put_bags.Given as goal

abbrev pub invariant-loop-t : goal.invariant-loop-t
invariant-loop-t l = HasBags l.p l.net l.t l.initial.sets l.sets

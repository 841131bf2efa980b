use Rattle.ja_class_tables.specs.InnerMembers.{HasFields}
use Rattle.ja_class_tables.proofs.members.put_fields.Given as goal

abbrev pub invariant-loop-f : goal.invariant-loop-f
invariant-loop-f l = HasFields l.p l.net l.f l.initial.sets l.sets

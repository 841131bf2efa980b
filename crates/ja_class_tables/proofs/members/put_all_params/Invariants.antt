use Rattle.ja_class_tables.specs.InnerMembers.{HasParams}
use Rattle.ja_class_tables.proofs.members.put_all_params.Given as goal

abbrev pub invariant-loop-m : goal.invariant-loop-m
invariant-loop-m l = HasParams l.p l.net l.m l.initial.sets l.sets

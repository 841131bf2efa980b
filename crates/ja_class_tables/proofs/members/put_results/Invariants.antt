use Rattle.ja_class_tables.specs.InnerMembers.{HasResults}
use Rattle.ja_class_tables.proofs.members.put_results.Given as goal

abbrev pub invariant-loop-m : goal.invariant-loop-m
invariant-loop-m l = HasResults l.p l.net l.m l.initial.sets l.sets

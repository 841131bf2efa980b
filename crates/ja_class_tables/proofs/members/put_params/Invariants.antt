use Rattle.ja_class_tables.specs.InnerMembers.{PutsParams}
use Rattle.ja_class_tables.proofs.members.put_params.Given as goal

abbrev pub invariant-loop-k : goal.invariant-loop-k
invariant-loop-k l = PutsParams l.net l.m l.k l.initial.sets l.sets

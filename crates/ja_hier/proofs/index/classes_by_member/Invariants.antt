use Rattle.ja_hier.proofs.Indexed.{IsIndexBelow}
use Rattle.ja_hier.proofs.index.classes_by_member.Given as goal

abbrev pub invariant-loop-class : goal.invariant-loop-class
invariant-loop-class l = IsIndexBelow l.member l.heads l.class l.index

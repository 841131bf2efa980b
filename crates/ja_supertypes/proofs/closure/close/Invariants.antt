use Rattle.ja_supertypes.proofs.Ways.{Shows}
use Rattle.ja_supertypes.proofs.closure.close.Given as goal

abbrev pub invariant-loop-middle : goal.invariant-loop-middle
invariant-loop-middle l = Shows l.heads l.middle l.rows

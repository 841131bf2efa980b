use Rattle.ja_methods.proofs.InstrSteps.{InstrsBelow}
use Rattle.ja_methods.proofs.instr.instrs_of.Given as goal

abbrev pub invariant-loop-k : goal.invariant-loop-k
invariant-loop-k l = InstrsBelow l.scene.hier.now l.scene.table.now l.scene.class.0 l.scene.pool.now l.instrs l.kinds l.k l.list

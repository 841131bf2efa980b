use Rattle.std.proofs.Common.{◌-◌}
use Rattle.ja_bdd.specs.Meaning.{IsMeant, Keeps}
use Rattle.ja_bdd.specs.Workers.{IsWorkerOf, seen}
use Rattle.ja_work.specs.Frames.{size, clauses_from}
use Rattle.ja_formula.specs.Inner.{clauses_of}
use Rattle.ja_formula.proofs.whole.rule_node.Given as goal

abbrev pub invariant-loop-done : goal.invariant-loop-done
invariant-loop-done g l = record {
  worker : IsWorkerOf l.table l.worker;
  keeps : Keeps (seen l.fn.worker) (seen l.worker);
  means : IsMeant (seen l.worker) l.node.number (clauses_from l.frame (clauses_of l.rule) (size l.frame - l.done) l.done);
}

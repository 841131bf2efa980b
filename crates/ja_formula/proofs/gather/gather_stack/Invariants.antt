use Rattle.std.proofs.Common.{◌+◌, ◌-◌}
use Rattle.ja_bdd.specs.Meaning.{IsMeant, Keeps}
use Rattle.ja_bdd.specs.Workers.{IsWorkerOf, seen}
use Rattle.ja_work.specs.Work.{gathered, stack_variables}
use Rattle.ja_formula.proofs.gather.gather_stack.Given as goal

abbrev pub invariant-loop-done : goal.invariant-loop-done
invariant-loop-done g l = record {
  worker : IsWorkerOf l.table l.worker;
  keeps : Keeps (seen l.fn.worker) (seen l.worker);
  means : IsMeant (seen l.worker) l.node.number (gathered l.positive (stack_variables l.frame (l.first + (l.count - l.done)) l.done));
}

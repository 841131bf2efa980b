use Rattle.ja_bdd.specs.Workers.{IsWorkerOf, seen}
use Rattle.diagram_cases.specs.Roots.{AreKnown}
use Rattle.diagram_cases.proofs.growth.tables.roots_of.Given as goal

abbrev pub invariant-loop-line : goal.invariant-loop-line
invariant-loop-line l = IsWorkerOf l.table l.worker × AreKnown (seen l.worker) l.roots

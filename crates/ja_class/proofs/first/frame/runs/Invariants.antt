use Rattle.std.proofs.Common.{◌≡◌, ◌≤◌, drop}
use Rattle.ja_class.specs.InnerReading.{runs}
use Rattle.ja_class.proofs.first.frame.runs.Given as goal

abbrev pub invariant-loop-index : goal.invariant-loop-index
invariant-loop-index l = record {
  small : l.frame.locals ≤ 10;
  same : runs l.frame (drop l.index l.code) ≡ runs l.fn.first l.code;
}

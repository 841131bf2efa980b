use Rattle.std.proofs.Common.{◌≡◌}
use Rattle.ja_steps.specs.Inner.{AreMoves, parts_of}
use Rattle.ja_steps.proofs.make.rule_by.Given as goal

abbrev pub invariant-loop-place : goal.invariant-loop-place
invariant-loop-place l = record {
  moves : AreMoves l.sources l.cases (parts_of l.frame l.range l.clauses) l.place l.rule.moves.items;
  start : l.rule.start ≡ l.initial.rule.start;
  accepted : l.rule.accepted ≡ l.initial.rule.accepted;
}

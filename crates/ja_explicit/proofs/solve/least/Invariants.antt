use Rattle.ja_explicit.specs.Tables.{items_of}
use Rattle.ja_explicit.specs.InnerRounds.{IsSound}
use Rattle.ja_explicit.proofs.solve.least.Given as goal

abbrev pub invariant-loop-round : goal.invariant-loop-round
invariant-loop-round l = IsSound l.p l.facts (items_of l.table)

use Rattle.std.proofs.Common.{◌≡◌, ℕ, ◌<◌}
use Rattle.std.specs.Prelude.{Some, slice_get}
use Rattle.ja_work.specs.declared.clause.Clause.{Clause}
use Rattle.ja_steps.specs.Inner.{HasRange}
use Rattle.ja_steps.proofs.make.have_range.Given as goal

abbrev pub invariant-loop-clause : goal.invariant-loop-clause
invariant-loop-clause l = (j : ℕ) (clause : Clause) → j < l.clause-index → slice_get l.clauses j ≡ Some clause → HasRange l.range clause

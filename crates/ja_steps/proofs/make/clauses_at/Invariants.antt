use Rattle.std.proofs.Common.{◌≡◌, ℕ, length}
use Rattle.std.specs.Prelude.{Some, slice_get}
use Rattle.ja_work.specs.declared.clause.Clause.{Clause}
use Rattle.ja_work.specs.Frames.{spot_at}
use Rattle.ja_steps.specs.Ends.{clauses_of}
use Rattle.ja_steps.proofs.make.clauses_at.Given as goal

abbrev pub invariant-loop-place : goal.invariant-loop-place
invariant-loop-place l = record {
  counted : length l.clauses.items ≡ l.place;
  each : (j : ℕ) (clause : Clause) → slice_get l.clauses.items j ≡ Some clause → clause ≡ clauses_of l.end (spot_at l.frame j);
}

use Rattle.std.proofs.Common.{◌≡◌, ℕ, ◌<◌, ◌⊎◌, true}
use Rattle.std.specs.Prelude.{Some, slice_get}
use Rattle.ja_work.specs.declared.clause.Clause.{Clause}
use Rattle.ja_steps.specs.Inner.{place_if, is_listed, AreNeeded}
use Rattle.ja_steps.proofs.make.sources_of.Given as goal

abbrev pub invariant-loop-place : goal.invariant-loop-place
invariant-loop-place l = record {
  all : (j q : ℕ) (clause : Clause) → j < l.place → slice_get l.clauses j ≡ Some clause → place_if l.frame clause.one ≡ Some q → (q ≡ j) ⊎ (is_listed l.sources.items q ≡ true);
  needed : AreNeeded l.frame l.clauses l.sources.items;
}

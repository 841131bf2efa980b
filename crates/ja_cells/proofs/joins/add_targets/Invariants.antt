use Rattle.std.proofs.Common.{◌≡◌, ℕ, ◌<◌, Some}
use Rattle.std.specs.Prelude.{slice_get}
use Rattle.ja_sets.specs.Sets.{Has}
use Rattle.ja_ir.specs.declared.method.Handler.{Handler}
use Rattle.ja_cells.specs.Joins.{Keeps}
use Rattle.ja_cells.proofs.joins.add_targets.Given as goal

abbrev pub invariant-loop-handler : goal.invariant-loop-handler
invariant-loop-handler l = record {
  keeps : Keeps l.fn.joins l.joins;
  targets : (k : ℕ) (handler : Handler) → k < l.handler-index → slice_get l.handlers k ≡ Some handler → Has l.joins handler.target;
}

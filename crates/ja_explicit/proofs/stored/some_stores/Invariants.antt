use Rattle.std.proofs.Common.{◌≡◌, false}
use Rattle.ja_facts.specs.Formulas.{any_below}
use Rattle.std.specs.Prelude.{◌&&◌, slice_index_or}
use Rattle.ja_explicit.specs.InnerSteps as steps
use Rattle.ja_explicit.specs.Tables.{items_of}
use Rattle.ja_explicit.proofs.stored.some_stores.Given as goal

abbrev pub invariant-loop-c : goal.invariant-loop-c
invariant-loop-c l =
    any_below (λ c. slice_index_or l.set c false && steps.stores (items_of l.table) c) l.c ≡ false

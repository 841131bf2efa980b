use Rattle.std.proofs.Common.{◌≡◌, false}
use Rattle.ja_facts.specs.Formulas.{any_below}
use Rattle.std.specs.Prelude.{◌&&◌, slice_index_or}
use Rattle.ja_explicit.specs.InnerStarts as starts
use Rattle.ja_explicit.specs.Tables.{items_of}
use Rattle.ja_facts.specs.ClassTables.{param_set}
use Rattle.ja_explicit.proofs.stored.param_stores.Given as goal

abbrev pub invariant-loop-t : goal.invariant-loop-t
invariant-loop-t l =
    any_below (λ t. slice_index_or (param_set l.facts.sets l.fn.m.0 l.k) t false && starts.token_stores l.p l.facts (items_of l.table) t) l.t ≡ false

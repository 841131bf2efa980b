use Rattle.std.proofs.Common.{sym, ◌∙◌, false}
use Rattle.std.specs.Prelude.{◌&&◌, slice_index_or}
use Rattle.std.proofs.lemmas.Bool.{and_from}
use Rattle.ja_work.proofs.Fitting.{some_any}
use Rattle.ja_explicit.specs.Tables.{items_of}
use Rattle.ja_explicit.specs.InnerSteps as steps
use Rattle.ja_explicit.proofs.stored.some_stores.Goals as goal

pub returns-then-stores : goal.returns-then-stores
returns-then-stores c =
    sym
    (some_any (λ k. slice_index_or c.args.set.now k false && steps.stores (items_of c.args.table.now) k) c.args.count c.loop-c.c c.loop-c-test.true
    (and_from (slice_index_or c.args.set.now c.loop-c.c false) (steps.stores (items_of c.args.table.now) c.loop-c.c)
    (sym c.is_in.ensures ∙ c.if-is_in.true) (sym c.stores.ensures ∙ c.if-stores.true)))

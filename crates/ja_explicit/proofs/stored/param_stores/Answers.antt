use Rattle.std.proofs.Common.{sym, ◌∙◌, false, subst, ◌<◌, ℕ, ap}
use Rattle.std.specs.Prelude.{◌&&◌, slice_index_or, Bool, List}
use Rattle.std.proofs.lemmas.Bool.{and_from}
use Rattle.ja_work.proofs.Fitting.{some_any}
use Rattle.ja_facts.specs.ClassTables.{token_count, param_set}
use Rattle.ja_explicit.specs.Tables.{items_of}
use Rattle.ja_explicit.specs.InnerStarts as starts
use Rattle.ja_explicit.proofs.stored.param_stores.Goals as goal

pub returns-then-token_stores : goal.returns-then-token_stores
returns-then-token_stores c =
    let set = param_set c.args.facts.now.sets c.args.m.0 c.args.k in
    sym
    (some_any (λ t. slice_index_or set t false && starts.token_stores c.args.p.now c.args.facts.now (items_of c.args.table.now) t) (token_count c.args.p.now) c.loop-t.t
    (subst (λ (n : ℕ). c.loop-t.t < n) c.token_count-count.ensures c.loop-t-test.true)
    (and_from (slice_index_or set c.loop-t.t false) (starts.token_stores c.args.p.now c.args.facts.now (items_of c.args.table.now) c.loop-t.t)
    (ap (λ (s : List Bool). slice_index_or s c.loop-t.t false) (sym c.param-set.ensures) ∙ sym c.is_in.ensures ∙ c.if-is_in.true) (sym c.token_stores.ensures ∙ c.if-token_stores.true)))

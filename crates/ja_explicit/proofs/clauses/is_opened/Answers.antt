use Rattle.std.proofs.Common.{sym, ◌∙◌, subst, ◌<◌, ℕ}
use Rattle.ja_explicit.proofs.Looping.{still_none}
use Rattle.std.specs.Prelude.{◌&&◌, nat_eq}
use Rattle.ja_ir.specs.Params as params
use Rattle.ja_work.proofs.Fitting.{some_any}
use Rattle.ja_explicit.specs.Tables.{items_of}
use Rattle.ja_explicit.specs.InnerStarts as starts
use Rattle.ja_explicit.proofs.clauses.is_opened.Goals as goal

pub returns-then-opens : goal.returns-then-opens
returns-then-opens c =
    let o = c.args.opening.now in
    sym
    (some_any (λ k. nat_eq (params.param_local o.method.now k) c.args.local && starts.may_be_true o.program.now o.facts.now (items_of o.table.now) o.entry.now o.method.now k) (params.param_count o.method.now) c.loop-k.k
    (subst (λ (n : ℕ). c.loop-k.k < n) c.param_count-count.ensures c.loop-k-test.true)
    (sym c.opens.ensures ∙ c.if-opens.true))

pub loop-k-preserved : goal.loop-k-preserved
loop-k-preserved c =
    let o = c.args.opening.now in
    still_none (λ k. nat_eq (params.param_local o.method.now k) c.args.local && starts.may_be_true o.program.now o.facts.now (items_of o.table.now) o.entry.now o.method.now k) c.loop-k.k c.loop-k.invariant
    (sym c.opens.ensures ∙ c.if-opens.false)

use Rattle.std.proofs.Common.{◌≡◌, false}
use Rattle.ja_facts.specs.Formulas.{any_below}
use Rattle.std.specs.Prelude.{◌&&◌, nat_eq}
use Rattle.ja_ir.specs.Params as params
use Rattle.ja_explicit.specs.InnerStarts as starts
use Rattle.ja_explicit.specs.Tables.{items_of}
use Rattle.ja_explicit.proofs.clauses.is_opened.Given as goal

abbrev pub invariant-loop-k : goal.invariant-loop-k
invariant-loop-k l =
    any_below (λ k. nat_eq (params.param_local l.opening.method.now k) l.local && starts.may_be_true l.opening.program.now l.opening.facts.now (items_of l.opening.table.now) l.opening.entry.now l.opening.method.now k) l.k ≡ false

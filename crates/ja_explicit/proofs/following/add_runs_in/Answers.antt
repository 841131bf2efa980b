use Rattle.std.proofs.Common.{◌++◌, ◌≡◌, ℕ, ◌≤◌, Option, None, sym, ap, subst, ◌∙◌, arith, append-nil}
use Rattle.std.specs.Prelude.{slice_get}
use Rattle.std.proofs.lemmas.Option.{slice_get_past}
use Rattle.ja_ir.specs.declared.method.Instr.{Instr}
use Rattle.ja_explicit.specs.Tables.{items_of}
use Rattle.ja_explicit.specs.InnerSteps as steps
use Rattle.ja_explicit.specs.InnerRules.{standing}
use Rattle.ja_explicit.proofs.Wholeness.{code_small, runs_there}
use Rattle.ja_explicit.proofs.following.add_runs_in.Goals as goal

pub returns-then-index-len : goal.returns-then-index-len
returns-then-index-len c =
    let s = c.args.standing_at.now in
    let none : slice_get s.method.now.code c.args.index ≡ None = slice_get_past s.method.now.code c.args.index (subst (λ (n : ℕ). n ≤ c.args.index) c.len.ensures c.if-index-len.true) in
    sym (append-nil c.args.out.now)
    ∙ ap (λ (o : Option Instr). c.args.out.now ++ steps.runs_reached c.args.p.now c.args.facts.now (items_of c.args.table.now) (standing s) c.args.index o) (sym none)

pub overflow_cast-index : goal.overflow_cast-index
overflow_cast-index c =
    omega (arith, code_small c.args.p.now c.methods-whole.ensures.whole c.args.standing_at.now.m c.args.standing_at.now.method.now c.requires.found, c.if-index-len.false, c.len.ensures)

pub add_runs-requires-clause-finds : goal.add_runs-requires-clause-finds
add_runs-requires-clause-finds c =
    (runs_there c.args.p.now c.methods-whole.ensures.whole c.args.standing_at.now.m c.args.standing_at.now.method.now c.requires.found c.args.index c.at-instr.result.now c.at-instr.ensures c.if-not-instr.false).operands

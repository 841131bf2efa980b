use Rattle.std.proofs.Common.{◌∙◌, ap, sym}
use Rattle.std.specs.Prelude.{slice_get}
use Rattle.ja_formula.proofs.Roomy.{roomy}
use Rattle.ja_formula.proofs.ends.instruction.Goals as goal

pub returns-clause-roomy : goal.returns-clause-roomy
returns-clause-roomy c frame has reached =
    let found = ap (λ ms. slice_get ms c.args.m.0) (sym c.methods.ensures.same) ∙ c.at.ensures in
    roomy c.args.program.now c.args.m.0 c.args.i c.at.result.now c.at-2.result.now c.methods.ensures.whole found c.at-2.ensures reached frame has

use Rattle.std.proofs.Common.{◌≡◌, ◌≤◌, ◌+◌, Some, List, sym, ap, ◌∙◌, arith}
use Rattle.std.specs.Prelude.{slice_get}
use Rattle.ja_ir.specs.declared.method.Method.{Method}
use Rattle.ja_ir.specs.Params.{param_count}
use Rattle.ja_names.proofs.Frames.{params-small, values-small}
use Rattle.ja_names.proofs.frame.frame_of.Goals as goal

pub overflow_cast-result : goal.overflow_cast-result
overflow_cast-result c =
    let found : slice_get c.args.p.now.methods c.args.m ≡ Some c.at-method.result.now = ap (λ (ms : List Method). slice_get ms c.args.m) (sym c.methods.ensures.same) ∙ c.at-method.ensures in
    omega (arith, c.param_count-params.ensures, params-small c.args.p.now c.args.m c.at-method.result.now c.methods.ensures.whole found)

pub returns-clause-small : goal.returns-clause-small
returns-clause-small c =
    let found : slice_get c.args.p.now.methods c.args.m ≡ Some c.at-method.result.now = ap (λ (ms : List Method). slice_get ms c.args.m) (sym c.methods.ensures.same) ∙ c.at-method.ensures in
    record {
      values = values-small c.args.p.now c.args.m c.at-method.result.now c.methods.ensures.whole found;
      params = omega (arith, c.param_count-params.ensures, params-small c.args.p.now c.args.m c.at-method.result.now c.methods.ensures.whole found);
    }

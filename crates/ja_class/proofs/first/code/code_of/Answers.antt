use Rattle.std.proofs.Common.{◌≡◌, ◌-◌, ◌++◌, ◌∷◌, [], length, sym, arith}
use Rattle.std.proofs.lemmas.Bool.{eqb-true}
use Rattle.std.proofs.lemmas.Result.{err_from_is_err_and}
use Rattle.ja_class.specs.declared.first.FirstInstr.{FirstInstr}
use Rattle.ja_class.specs.InnerReading.{code_from}
use Rattle.ja_class.specs.InnerViews.{entries}
use Rattle.ja_class.proofs.CodeLaws.{step_takes, code_more, code_refused, code_done, after_nothing, is_positive}
use Rattle.ja_class.proofs.first.code.code_of.Goals as goal

pub loop-rest-init : goal.loop-rest-init
loop-rest-init c = record {
  fits = λ i. omega (arith, c.type_inv.code i);
  shorter = omega arith;
  same = rw c.new-instructions.ensures.items (after_nothing (code_from (entries c.args.pool.now) (length c.args.code.now) (length c.args.code.now) c.args.code.now));
}

pub loop-rest-preserved : goal.loop-rest-preserved
loop-rest-preserved c =
    let pool = entries c.args.pool.now in
    let code = c.args.code.now in
    let step = c.in_ok-op.ensures.value in
    let i : FirstInstr = record { pc = length code - length c.loop-rest.rest.now; op = c.in_ok-op.op } in
    let pushed : c.push.new.self.items ≡ c.loop-rest.instructions.items ++ i ∷ [] = c.in_ok-push.ensures.items in
    record {
      fits = (step_takes pool c.loop-rest.rest.now (c.in_ok-op.op, c.in_ok-op.after.now) c.loop-rest.invariant.fits step).1.rest_fits;
      shorter = omega (arith, c.in_ok-op.ensures.shorter);
      same = rw pushed (code_more pool (length code) c.loop-rest.instructions.items c.loop-rest.rest.now (c.in_ok-op.op, c.in_ok-op.after.now)
          (code_from pool (length code) (length code) code) c.loop-rest.invariant.fits step c.loop-rest.invariant.same);
    }

pub returns-in_err-op : goal.returns-in_err-op
returns-in_err-op c =
    let p = err_from_is_err_and c.from_residual.result c.from_residual.ensures.1 in
    let pool = entries c.args.pool.now in
    let code = c.args.code.now in
    rw (p.1, p.2) (code_refused c.in_err-op.field-0.0 pool (length code) c.loop-rest.instructions.items c.loop-rest.rest.now (code_from pool (length code) (length code) code)
    (is_positive (length c.loop-rest.rest.now) c.loop-rest-test.ensures) c.in_err-op.ensures.value c.loop-rest.invariant.same)

pub returns : goal.returns
returns c =
    let pool = entries c.args.pool.now in
    let code = c.args.code.now in
    let none : length c.loop-rest.rest.now ≡ 0 = eqb-true (length c.loop-rest.rest.now) 0 (sym c.loop-rest-test.ensures) in
    rw c.from_vec.ensures (code_done pool (length code) c.loop-rest.instructions.items c.loop-rest.rest.now (code_from pool (length code) (length code) code)
    (omega arith) c.loop-rest.invariant.same)

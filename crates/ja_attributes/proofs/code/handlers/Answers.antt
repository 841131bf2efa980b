use Rattle.std.proofs.Common.{◌≡◌, ◌+◌, ◌-◌, ◌++◌, [], ◌∷◌, List, suc, inr, length, sym, ap, subst, arith, length-append}
use Rattle.std.proofs.lemmas.Result.{err_from_is_err_and}
use Rattle.ja_code.specs.declared.handler.RawHandler.{RawHandler}
use Rattle.ja_attributes.specs.Faults.{handler}
use Rattle.ja_attributes.specs.Part.{times}
use Rattle.ja_attributes.specs.InnerSteps.{onward}
use Rattle.ja_attributes.proofs.Completes.{Completes, times_step, times_stop, times_done}
use Rattle.ja_attributes.proofs.Exact.{handler_exact}
use Rattle.ja_attributes.proofs.Heads.{stays_within}
use Rattle.ja_attributes.proofs.code.handlers.Goals as goal

pub returns-in_err-row-clause-reads : goal.returns-in_err-row-clause-reads
returns-in_err-row-clause-reads c =
    let p = err_from_is_err_and c.from_residual.result c.from_residual.ensures.1 in
    let one : c.args.count - c.loop-done._done ≡ suc (c.args.count - c.loop-done._done - 1) = omega arith in
    rw (p.1, p.2)
    (inr (times_stop handler (times c.args.count handler) (onward c.args.base c.args.c.now) (onward c.args.base c.loop-done.c) c.loop-done.rows.items _ _ one c.loop-done.invariant.2
    c.in_err-row.field-0.0 c.in_err-row.ensures))

pub loop-done-preserved : goal.loop-done-preserved
loop-done-preserved c =
    let one : c.args.count - c.loop-done._done ≡ suc (c.args.count - (c.loop-done._done + 1)) = omega arith in
    let old = onward c.args.base c.args.c.now in
    let items : c.push.new.self.items ≡ c.loop-done.rows.items ++ c.in_ok-row.row ∷ [] = c.in-Ok.ensures.items in (
      stays_within c.args.base c.loop-done.c c.handler.new.c c.loop-done.invariant.0
          (handler_exact.forward (onward c.args.base c.loop-done.c) c.in_ok-row.row (onward c.args.base c.handler.new.c) c.in_ok-row.ensures),
      omega (arith, ap length items, length-append c.loop-done.rows.items (c.in_ok-row.row ∷ []), c.loop-done.invariant.1),
      subst
          (λ (t : List RawHandler). Completes (λ (others : List RawHandler). t ++ others) (times c.args.count handler) old (times (c.args.count - (c.loop-done._done + 1)) handler) (onward c.args.base c.handler.new.c))
          (sym items)
          (times_step handler (times c.args.count handler) old (onward c.args.base c.loop-done.c) c.loop-done.rows.items _ _ one c.loop-done.invariant.2
          c.in_ok-row.row (onward c.args.base c.handler.new.c) c.in_ok-row.ensures),
    )

pub returns-clause-reads : goal.returns-clause-reads
returns-clause-reads c =
    times_done handler (times c.args.count handler) (onward c.args.base c.args.c.now) (onward c.args.base c.loop-done.c) c.loop-done.rows.items _ (omega arith) c.loop-done.invariant.2

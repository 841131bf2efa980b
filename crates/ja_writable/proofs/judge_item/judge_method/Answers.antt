use Rattle.ja_writable.proofs.Checks.{method_judged}
use Rattle.ja_writable.proofs.judge_item.judge_method.Goals as goal

pub returns : goal.returns
returns c =
    let fit = rw c.fits_short.ensures at c.in_ok-demand.ensures in
    let frame = rw c.has_code.ensures at c.in_ok-judge_frame.ensures in
    method_judged c.args.flags c.args.name.now c.args.desc.now c.args.frame.now c.args.some c.judge_filled.result fit c.in_ok-judge_text.ensures c.in_ok-judge_text-2.ensures
    c.in_ok-judge_method_desc.ensures frame c.judge_filled.ensures

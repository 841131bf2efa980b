use Rattle.ja_writable.proofs.Checks.{field_judged}
use Rattle.ja_writable.proofs.judge_item.judge_field.Goals as goal

pub returns : goal.returns
returns c =
    let fit = rw c.fits_short.ensures at c.in_ok-demand.ensures in
    field_judged c.args.flags c.args.name.now c.args.desc.now c.judge_field_desc.result fit c.in_ok-judge_text.ensures c.in_ok-judge_text-2.ensures c.judge_field_desc.ensures

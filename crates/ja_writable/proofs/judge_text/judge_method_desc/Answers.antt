use Rattle.ja_writable.proofs.Checks.{room_judged}
use Rattle.ja_writable.proofs.judge_text.judge_method_desc.Goals as goal

pub returns-in-Ok : goal.returns-in-Ok
returns-in-Ok c =
    let method = rw c.bytes.ensures at c.in-Ok.ensures.ok in
    room_judged c.args.flags c.args.desc.now c.in-Ok.found.params c.in-Ok.found.result c.in-Ok.found.words c.is_crowded.result c.refuse.result method c.in-Ok.ensures.words
    c.is_crowded.ensures c.refuse.ensures

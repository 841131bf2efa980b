use Rattle.std.proofs.Common.{◌≡◌, ◌≤◌, ℕ, length, lit<, sym, ◌∙◌, subst, arith}
use Rattle.ja_reading.specs.Judged.{IsTooLongBehind}
use Rattle.ja_reading.proofs.Steps.{front_is_whole, too_long_behind}
use Rattle.ja_reading.proofs.reading.judge_file.Goals as goal

pub returns-in-Err : goal.returns-in-Err
returns-in-Err c files next named front before =
    too_long_behind files next c.args.judged c.args.file.name 4194305 c.args.file.bytes c.in-Err.refusal (lit< tt) front named
    (subst (λ (count : ℕ). IsTooLongBehind c.args.judged.total c.args.file.name count c.in-Err.refusal) c.len.ensures c.in-Err.ensures.refused) before

pub returns-in-Ok-with_file : goal.returns-in-Ok-with_file
returns-in-Ok-with_file c files next named front before =
    let short : length c.args.file.bytes ≤ 4194304 = omega (arith, c.len.ensures, c.in-Ok.ensures.short) in
    let whole : c.args.file.bytes ≡ next.bytes = front_is_whole next.bytes 4194305 c.args.file.bytes (lit< tt) front short in
    c.in-Ok-with_file.ensures files next (named ∙ sym c.in-Ok.ensures.named) (sym whole ∙ sym c.as_slice.ensures) before

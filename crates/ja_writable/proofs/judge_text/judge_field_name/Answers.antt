use Rattle.ja_bytes.specs.DescriptorText.{IsFieldDesc}
use Rattle.ja_writable.proofs.Checks.{member_judged}
use Rattle.ja_writable.proofs.judge_text.judge_field_name.Goals as goal

pub returns : goal.returns
returns c =
    member_judged IsFieldDesc c.args.member.now c.judge_field_desc.result c.in_ok-judge_text.ensures c.in_ok-judge_text-2.ensures c.in_ok-judge_text-3.ensures c.judge_field_desc.ensures

use Rattle.ja_bytes.specs.DescriptorText.{IsMethodText}
use Rattle.ja_writable.proofs.Checks.{member_judged}
use Rattle.ja_writable.proofs.judge_text.judge_method_name.Goals as goal

pub returns : goal.returns
returns c =
    member_judged IsMethodText c.args.member.now c.judge_method_text.result c.in_ok-judge_text.ensures c.in_ok-judge_text-2.ensures c.in_ok-judge_text-3.ensures c.judge_method_text.ensures

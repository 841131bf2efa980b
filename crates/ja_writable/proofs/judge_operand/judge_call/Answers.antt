use Rattle.std.proofs.Common.{◌≡◌, true}
use Rattle.ja_bytes.specs.DescriptorText.{IsMethodText}
use Rattle.ja_assembly.specs.Unwritable.{IsNoMember, is_beyond_count}
use Rattle.ja_writable.proofs.Checks.{or_else_judges}
use Rattle.ja_writable.proofs.judge_operand.judge_call.Goals as goal

pub returns : goal.returns
returns c =
    or_else_judges (IsNoMember IsMethodText c.args.member.now) (is_beyond_count c.args.form c.args.member.now.desc ≡ true) c.judge_count.result c.in_ok-judge_method_name.ensures
    c.judge_count.ensures

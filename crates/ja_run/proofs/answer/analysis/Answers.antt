use Rattle.std.proofs.Common.{◌≡◌, length, ap, ◌∙◌}
use Rattle.ja_run.proofs.Judged.{flags_of_sinks}
use Rattle.ja_run.proofs.answer.analysis.Goals as goal

pub report_on_method-requires : goal.report_on_method-requires
report_on_method-requires c =
    ap length c.as_slice-2.ensures ∙ flags_of_sinks c.args.method.now c.in_ok-warned.warned c.in_ok-warned.ensures.verdicts

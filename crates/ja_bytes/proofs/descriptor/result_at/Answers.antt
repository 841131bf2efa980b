use Rattle.std.proofs.Common.{sym, ◌∙◌}
use Rattle.std.proofs.lemmas.Bool.{false≢true}
use Rattle.ja_bytes.proofs.DescParts.{result_wrong}
use Rattle.ja_bytes.proofs.descriptor.result_at.Goals as goal

pub returns-in-Err-clause-stuck : goal.returns-in-Err-clause-stuck
returns-in-Err-clause-stuck c = result_wrong c.args.bytes.now c.in-Err.fault (λ h. false≢true (sym c.if-begins_with.false ∙ c.begins_with.ensures.1 h)) c.in-Err.ensures.stuck

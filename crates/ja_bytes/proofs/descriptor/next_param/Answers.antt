use Rattle.std.proofs.Common.{sym, ◌∙◌}
use Rattle.std.proofs.lemmas.Bool.{false≢true}
use Rattle.ja_bytes.proofs.DescParts.{full_wrong, next_wrong}
use Rattle.ja_bytes.proofs.descriptor.next_param.Goals as goal

pub returns-then-words-eq255-clause-stuck : goal.returns-then-words-eq255-clause-stuck
returns-then-words-eq255-clause-stuck c =
    full_wrong c.args.words c.args.bytes.now c.if-words-eq255.true (λ h. false≢true (sym c.if-begins_with.false ∙ c.begins_with.ensures.1 h))

pub returns-in-Err-clause-stuck : goal.returns-in-Err-clause-stuck
returns-in-Err-clause-stuck c =
    next_wrong _ c.args.bytes.now c.in-Err.fault (λ h. false≢true (sym c.if-begins_with.false ∙ c.begins_with.ensures.1 h)) c.in-Err.ensures.stuck

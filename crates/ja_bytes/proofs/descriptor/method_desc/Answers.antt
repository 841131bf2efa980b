use Rattle.std.proofs.Common.{sym, ◌∙◌}
use Rattle.std.proofs.lemmas.Bool.{false≢true}
use Rattle.ja_bytes.proofs.DescParts.{wrong_unbegun}
use Rattle.ja_bytes.proofs.descriptor.method_desc.Goals as goal

pub returns-then-not-begins_with-clause-wrong : goal.returns-then-not-begins_with-clause-wrong
returns-then-not-begins_with-clause-wrong c = wrong_unbegun c.args.bytes.now (λ z e. false≢true (sym c.if-not-begins_with.true ∙ c.begins_with.ensures.1 (z, e)))

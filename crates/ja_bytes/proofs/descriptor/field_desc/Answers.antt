use Rattle.ja_bytes.proofs.DescParts.{field_wrong, field_wrong_behind}
use Rattle.ja_bytes.proofs.descriptor.field_desc.Goals as goal

pub returns-then-text-bytes-clause-wrong : goal.returns-then-text-bytes-clause-wrong
returns-then-text-bytes-clause-wrong c = field_wrong_behind c.args.bytes.now c.in-Ok.text.len _ c.in-Ok.ensures.ok c.if-text-bytes.true

pub returns-in-Err-clause-wrong : goal.returns-in-Err-clause-wrong
returns-in-Err-clause-wrong c = field_wrong c.args.bytes.now c.in-Err.n c.in-Err.ensures.stuck

use Rattle.std.proofs.Common.{◌-◌, length}
use Rattle.ja_bytes.proofs.DescParts.{HasParams}
use Rattle.ja_bytes.proofs.descriptor.params_of.Given as goal

abbrev pub invariant-params : goal.invariant-params
invariant-params l = HasParams l.bytes l.len l.words l.types

abbrev pub decreases-params : goal.decreases-params
decreases-params l = length l.bytes - l.len

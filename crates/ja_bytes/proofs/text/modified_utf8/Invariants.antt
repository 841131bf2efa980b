use Rattle.std.proofs.Common.{length}
use Rattle.ja_bytes.proofs.TextParts.{HasRead}
use Rattle.ja_bytes.proofs.text.modified_utf8.Given as goal

abbrev pub invariant-loop-rest : goal.invariant-loop-rest
invariant-loop-rest l = HasRead l.bytes l.rest

abbrev pub decreases-loop-rest : goal.decreases-loop-rest
decreases-loop-rest l = length l.rest

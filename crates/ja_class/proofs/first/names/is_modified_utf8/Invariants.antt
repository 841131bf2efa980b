use Rattle.std.proofs.Common.{◌≡◌, drop}
use Rattle.ja_class.specs.InnerReading.{is_utf8}
use Rattle.ja_class.proofs.first.names.is_modified_utf8.Given as goal

abbrev pub invariant-loop-byte : goal.invariant-loop-byte
invariant-loop-byte l = is_utf8 l.more (drop l.byte-index l.bytes) ≡ is_utf8 0 l.bytes

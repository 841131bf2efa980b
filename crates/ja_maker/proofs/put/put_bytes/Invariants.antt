use Rattle.std.proofs.Common.{◌≡◌, ◌++◌, take}
use Rattle.ja_maker.proofs.put.put_bytes.Given as goal

-- the bytes so far are written
abbrev pub invariant-loop-byte : goal.invariant-loop-byte
invariant-loop-byte l = l.out ≡ l.initial.out ++ take l.byte-index l.bytes

use Rattle.std.proofs.Common.{◌≡◌, take}
use Rattle.ja_heads.specs.Signatures.{first_seen, numbers_of, own_first, signatures_of}
use Rattle.ja_heads.proofs.signature.signatures.Given as goal

abbrev pub invariant-loop-d : goal.invariant-loop-d
invariant-loop-d l = l.set.keys ≡ first_seen (signatures_of l.heads (own_first l.class.0 (numbers_of (take l.d-index l.supers))))

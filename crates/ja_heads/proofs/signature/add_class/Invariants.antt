use Rattle.std.proofs.Common.{◌≡◌, ◌++◌, List, map, take}
use Rattle.ja_heads.specs.declared.signature.Signature.{Signature}
use Rattle.ja_heads.specs.Signatures.{first_seen, signature_of}
use Rattle.ja_heads.proofs.signature.add_class.Given as goal

abbrev pub invariant-loop-method : goal.invariant-loop-method
invariant-loop-method l = (seen : List Signature) → l.initial.set.keys ≡ first_seen seen → l.set.keys ≡ first_seen (seen ++ map signature_of (take l.method-index l.methods))

-- The signatures of classes one after the other. Only private functions cite this.
use Rattle.std.specs.Prelude.{ℕ, ◌==◌, List, [], if◌then◌else◌}
use Rattle.ja_ir.specs.declared.head.ClassHead.{ClassHead}
use Rattle.ja_heads.specs.declared.signature.Signature.{Signature}
use Rattle.ja_heads.specs.Signatures.{signatures_in}

-- the signatures of class d, unless it is class c
abbrev pub signatures_beside : List ClassHead → (c d : ℕ) → List Signature
signatures_beside heads c d = if d == c then [] else signatures_in heads d

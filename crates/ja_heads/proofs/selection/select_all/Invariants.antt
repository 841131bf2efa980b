use Rattle.std.proofs.Common.{◌≡◌, map, take}
use Rattle.std.specs.Prelude.{All}
use Rattle.ja_hier.specs.declared.skip.Skip.TheVariants.{NotVirtual}
use Rattle.ja_hier.specs.LookUps.{Finds}
use Rattle.ja_heads.specs.Signatures.{selected}
use Rattle.ja_heads.proofs.selection.select_all.Given as goal

abbrev pub invariant-loop-signature : goal.invariant-loop-signature
invariant-loop-signature l = record {
  signatures : map selected l.selections ≡ take l.signature-index l.signatures;
  targets : All (λ selection. Finds l.hier NotVirtual selection.name selection.desc l.class.0 selection.target) l.selections;
}

use Rattle.std.proofs.Common.{◌≡◌, false, true}
use Rattle.std.specs.Prelude.{bytes_eq, codes, Some, slice_get}
use Rattle.ja_ir.specs.Lookup.{has_flag}
use Rattle.ja_operations.proofs.Above.{goes}
use Rattle.ja_operations.proofs.target.goes_above.Goals as goal

pub returns : goal.returns
returns c =
    let init : bytes_eq c.args.member.now.name (codes "<init>") ≡ false = cc in
    let there : slice_get c.args.hier.now c.args.c.0 ≡ Some c.at.result.now = cc in
    let flag : has_flag c.at.result.now.flags 0x0020 ≡ true = cc in (
      λ t. goes c.args.hier.now c.args.c.0 c.args.member.now c.at.result.now there init flag (c.is_proper_superclass.ensures.0 t),
      λ above. c.is_proper_superclass.ensures.1 above.proper,
    )

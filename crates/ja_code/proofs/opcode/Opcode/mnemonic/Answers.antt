use Rattle.std.proofs.Common.{◌≡◌, [], length}
use Rattle.std.proofs.lemmas.List.{get_or_default}
use Rattle.ja_code.specs.Mnemonic.{mnemonics, mnemonic_at}
use Rattle.ja_code.proofs.Rows.{mnemonic_in_row}
use Rattle.ja_code.proofs.opcode.Opcode.mnemonic.Goals as goal

-- the table has the mnemonic that each opcode has
pub returns : goal.returns
unfolding mnemonic_at
returns c = rw (← c.self.view_is) (rw mnemonic_in_row (get_or_default mnemonics c.self.inside.number _ [] c.self.invariant))

use Rattle.std.proofs.Common.{◌∙◌}
use Rattle.ja_code.proofs.Rows.{place_of_row}
use Rattle.ja_code.proofs.opcode.place_of.Goals as goal

pub returns-clause-place : goal.returns-clause-place
returns-clause-place c = c.row_of.ensures.place ∙ place_of_row c.args.rows.now c.args.mnemonic.now

use Rattle.std.proofs.Common.{◌≡◌}
use Rattle.ja_code.specs.Opcode.{form_at}
use Rattle.ja_code.proofs.Rows.{form_in_row, form_by_number}
use Rattle.ja_code.proofs.opcode.Opcode.form.Goals as goal

-- the table has the form that each opcode has
pub returns : goal.returns
unfolding form_at
returns c = rw (← c.self.view_is) (rw form_in_row (form_by_number c.self.inside.number _ c.self.invariant))

use Rattle.std.proofs.Common.{◌≡◌}
use Rattle.ja_code.specs.Behaviour.{behaviour_at}
use Rattle.ja_code.proofs.Rows.{behaviour_in_row, behaviour_by_number}
use Rattle.ja_code.proofs.opcode.Opcode.behaviour.Goals as goal

-- the table has what each opcode does
pub returns : goal.returns
unfolding behaviour_at
returns c = rw (← c.self.view_is) (rw behaviour_in_row (behaviour_by_number c.self.inside.number _ c.self.invariant))

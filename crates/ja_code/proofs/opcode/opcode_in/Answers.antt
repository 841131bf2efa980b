use Rattle.std.proofs.Common.{◌≡◌, ℕ, ◌<◌, sym, subst}
use Rattle.ja_code.proofs.Rows.{number_in_row, number_by_number}
use Rattle.ja_code.proofs.opcode.opcode_in.Goals as goal

pub invariant_of-result : goal.invariant_of-result
invariant_of-result c =
    let below : c.args.place < 202 = c.requires in
    rw number_in_row (subst (λ (n : ℕ). n < 202) (sym (number_by_number c.args.place _ below)) below)

-- the numbers of the table are its places
pub returns : goal.returns
returns c =
    let below : c.args.place < 202 = c.requires in
    rw number_in_row (number_by_number c.args.place _ below)

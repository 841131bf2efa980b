use Rattle.std.proofs.Common.{◌<◌, sym, arith}
use Rattle.ja_code.proofs.Rows.{no_form}
use Rattle.ja_code.proofs.opcode.form_of.Goals as goal

pub returns-then-number-gt201 : goal.returns-then-number-gt201
returns-then-number-gt201 c =
    let above : 201 < c.args.number = omega arith in
    sym (no_form c.args.number above)

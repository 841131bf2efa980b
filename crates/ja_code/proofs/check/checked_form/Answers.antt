use Rattle.std.proofs.Common.{◌≡◌, [], Some, slice_index, arith}
use Rattle.ja_code.specs.Opcode.{form_at}
use Rattle.ja_code.proofs.Passing.{has_there, size_there, opcode_there}
use Rattle.ja_code.proofs.check.checked_form.Goals as goal

pub returns-clause-there : goal.returns-clause-there
returns-clause-there c =
    let front = has_there c.args.pc c.args.bytes.now c.front_len.result [] c.in_ok-check_len.ensures in
    size_there c.in-Some.form c.args.tags.now c.args.dims.now c.args.pc c.args.bytes.now (omega arith) c.in_ok-check_operands.ensures

pub returns-clause-opcode : goal.returns-clause-opcode
returns-clause-opcode c =
    let at : form_at (slice_index c.args.bytes.now 0) ≡ Some c.in-Some.form = cc in
    opcode_there c.in-Some.form c.args.tags.now c.args.dims.now c.args.pc c.args.bytes.now at c.in_ok-check_operands.ensures

use Rattle.std.proofs.Common.{[], get_or}
use Rattle.std.specs.Prelude.{false}
use Rattle.std.proofs.lemmas.Option.{slice_get-get_or}
use Rattle.std.proofs.lemmas.Result.{err_from_is_err_and}
use Rattle.ja_code.specs.declared.instr.RawInstr.{RawInstr}
use Rattle.ja_methods.proofs.InstrSteps.{instrs-more, first-refusal}
use Rattle.ja_methods.proofs.instr.instrs_of.Goals as goal

abbrev none : RawInstr
none = record { pc = 0; opcode = 0; wide = false; operands = []; length = 0 }

pub returns-in_err-instr-clause-refused : goal.returns-in_err-instr-clause-refused
returns-in_err-instr-clause-refused c =
    let p = err_from_is_err_and c.from_residual.result c.from_residual.ensures.1 in
    let at = slice_get-get_or c.args.instrs.now c.loop-k.k none c.loop-k-test.true in
    rw (p.1, p.2)
    (first-refusal c.args.scene.now.hier.now c.args.scene.now.table.now c.args.scene.now.class.0 c.args.scene.now.pool.now c.args.instrs.now c.args.kinds.now c.loop-k.k c.loop-k.list
    (get_or c.args.instrs.now c.loop-k.k none) c.in_err-instr.field-0.0 at c.loop-k.invariant (c.in_err-instr.ensures.refused (get_or c.args.instrs.now c.loop-k.k none) at))

pub loop-k-preserved : goal.loop-k-preserved
loop-k-preserved c =
    let raw : RawInstr = get_or c.args.instrs.now c.loop-k.k none in
    let at = slice_get-get_or c.args.instrs.now c.loop-k.k none c.loop-k-test.true in
    instrs-more c.args.scene.now.hier.now c.args.scene.now.table.now c.args.scene.now.class.0 c.args.scene.now.pool.now c.args.instrs.now c.args.kinds.now c.loop-k.k c.loop-k.list c.push.new.self
    raw c.in_ok-instr.instr _ at c.at-before.ensures c.loop-k.invariant (c.in_ok-instr.ensures.ok raw at) (c.in_ok-instr.ensures.clean raw at) c.in_ok-push.ensures.ok

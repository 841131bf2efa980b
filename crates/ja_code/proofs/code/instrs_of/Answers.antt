use Rattle.std.proofs.Common.{◌≡◌, ◌<◌, length, drop, replicate, true, false, ◌∙◌, arith}
use Rattle.std.proofs.lemmas.List.{take_rest, length-replicate, length-set}
use Rattle.std.proofs.lemmas.Result.{err_from_is_err_and}
use Rattle.ja_code.specs.Grammar.{AreInstrs}
use Rattle.ja_code.specs.Faults.{first_failing, instr_checks}
use Rattle.ja_code.proofs.Decoding.{none_marked, marked_at, one_more, stopped, cause_from}
use Rattle.ja_code.proofs.code.instrs_of.Goals as goal

pub loop-pc-init : goal.loop-pc-init
loop-pc-init c =
    let items : c.in_ok-starts.starts.items ≡ replicate (length c.args.code.now) false = c.in_ok-starts.ensures.items_if_clones_equal (λ y e. e) in
    rw (items, c.new-instrs.ensures) (omega arith, AreInstrs.none, length-replicate (length c.args.code.now) false, none_marked (length c.args.code.now))

pub returns-in_err-instr-clause-cause : goal.returns-in_err-instr-clause-cause
returns-in_err-instr-clause-cause c =
    let p = err_from_is_err_and c.from_residual-in_err-instr.result c.from_residual-in_err-instr.ensures.1 in
    let fails = rw take_rest at c.in_err-instr.ensures in
    rw (p.1, p.2) (λ rows.
    cause_from c.args.code.now c.args.tags.now c.args.dims.now rows
    (first_failing (instr_checks c.args.tags.now c.args.dims.now c.loop-pc.pc (drop c.loop-pc.pc c.args.code.now))) c.in_err-instr.field-0.0
    (λ fault. stopped c.args.tags.now c.args.dims.now c.loop-pc.pc c.args.code.now c.loop-pc.instrs rows fault c.loop-pc-test.true c.loop-pc.invariant.1) fails)

pub loop-pc-smaller : goal.loop-pc-smaller
loop-pc-smaller c =
    let given = rw take_rest at c.in_ok-instr.ensures in
    let more = one_more c.args.tags.now c.args.dims.now c.loop-pc.pc c.args.code.now c.loop-pc.instrs c.in_ok-instr.instr c.loop-pc.invariant.0 c.loop-pc.invariant.1 given in
    omega (arith, more.0, more.2, c.loop-pc-test.true)

pub loop-pc-preserved : goal.loop-pc-preserved
loop-pc-preserved c =
    let given = rw take_rest at c.in_ok-instr.ensures in
    let more = one_more c.args.tags.now c.args.dims.now c.loop-pc.pc c.args.code.now c.loop-pc.instrs c.in_ok-instr.instr c.loop-pc.invariant.0 c.loop-pc.invariant.1 given in
    let starts = c.loop-pc.starts.items in
    let below : c.loop-pc.pc < length starts = omega (arith, c.loop-pc.invariant.2, c.loop-pc-test.true) in
    rw c.in_ok-push.ensures.ok (
      more.0,
      more.1,
      length-set starts c.loop-pc.pc true ∙ c.loop-pc.invariant.2,
      marked_at starts c.loop-pc.instrs c.in_ok-instr.instr c.loop-pc.pc more.3 below c.loop-pc.invariant.3,
    )

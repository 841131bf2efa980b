use Rattle.std.proofs.Common.{◌≡◌, ℕ, ◌<◌, List, length, get_or, sym, subst}
use Rattle.ja_code.specs.declared.instr.RawInstr.{RawInstr}
use Rattle.ja_kinds.proofs.Visits.{sweeps_none, sweeps_more, one_of_at}
use Rattle.ja_kinds.proofs.sweep.sweep.Goals as goal

pub loop-instr-init : goal.loop-instr-init
loop-instr-init c = sweeps_none c.args.pool.now c.args.code.now c.args.frame.now c.args.states.now c.args.dirty.now c.requires.states c.requires.clean

pub visit-requires-clause-member : goal.visit-requires-clause-member
visit-requires-clause-member c =
    let n : ℕ = c.loop-instr.instr-index in
    let below : n < length c.args.code.now.instrs = subst (λ (is : List RawInstr). n < length is) c.as_slice-instr-items.ensures c.loop-instr-test.true in
    let read : c.instr-item.result ≡ get_or c.args.code.now.instrs n c.instr-item.result =
    subst (λ (is : List RawInstr). c.instr-item.result ≡ get_or is n c.instr-item.result) c.as_slice-instr-items.ensures c.instr-item.is in
    one_of_at c.args.code.now.instrs n c.instr-item.result below (sym read)

pub loop-instr-preserved : goal.loop-instr-preserved
loop-instr-preserved c =
    let n : ℕ = c.loop-instr.instr-index in
    let below : n < length c.args.code.now.instrs = subst (λ (is : List RawInstr). n < length is) c.as_slice-instr-items.ensures c.loop-instr-test.true in
    let read : c.instr-item.result ≡ get_or c.args.code.now.instrs n c.instr-item.result =
    subst (λ (is : List RawInstr). c.instr-item.result ≡ get_or is n c.instr-item.result) c.as_slice-instr-items.ensures c.instr-item.is in
    sweeps_more c.args.pool.now c.args.code.now c.args.frame.now c.args.states.now c.loop-instr.states c.visit.new.states c.args.dirty.now c.loop-instr.dirty c.visit.new.dirty
    c.loop-instr.changed c.in_ok-rose.rose n c.instr-item.result below (sym read)
    (one_of_at c.args.code.now.instrs n c.instr-item.result below (sym read))
    c.loop-instr.invariant c.in_ok-rose.ensures

use Rattle.std.proofs.Common.{Bool, List, slice_index_or}
use Rattle.ja_plain.specs.Verdict.{AreVerdicts}
use Rattle.ja_class.specs.declared.first.FirstInstr.{FirstInstr}
use Rattle.ja_class.specs.declared.first.FirstOp.TheVariants.{Load}
use Rattle.ja_plain.specs.InnerPass.{top_of}
use Rattle.ja_plain.proofs.Passing.{begins, flagged-sink, flagged-other, goes-on-from}
use Rattle.ja_plain.proofs.Clean.{clean}
use Rattle.ja_plain.proofs.Solution.{ends, verdicts}
use Rattle.ja_plain.proofs.first.solve_first.Goals as goal
use Rattle.ja_plain.proofs.first.solve_first.Goals.{in-Sink+in_ok-push, in_default}

pub loop-instr-init : goal.loop-instr-init
loop-instr-init c = begins c.args.m.now.locals c.args.m.now.stack c.args.m.now.code _ _ _ _ c.as_slice-instr-items.ensures c.new-warned.ensures c.in_ok-frame.ensures.locals c.in_ok-frame.ensures.stack c.requires.runs

pub loop-instr-preserved : goal.loop-instr-preserved
loop-instr-preserved c =
    let first : FirstInstr = record { pc = 0; op = Load 0 } in
    let now : FirstInstr = slice_index_or c.as_slice-instr-items.result.now c.loop-instr.instr-index first in
    let stack : List Bool = c.loop-instr.frame.stack.items in
    goes-on-from _ c.loop-instr.warned c.match-instr.warned c.loop-instr.frame.locals.items stack _ _ c.as_slice-instr-items.result.now c.loop-instr.instr-index first c.loop-instr-test.true c.loop-instr.invariant
    (elim c.match-instr.branch [
      | in-Sink+in_ok-push w ↦ (let e = flagged-sink now.op (top_of stack) c.loop-instr.warned w.in-Sink.is in cc (w.in_ok-push.ensures.ok, w.top.ensures, e))
      | in_default w ↦ (let e = flagged-other now.op (top_of stack) c.loop-instr.warned w.in_default.not-Sink in cc)
    ])
    c.in_ok-step.ensures.locals
    c.in_ok-step.ensures.stack

pub returns : goal.returns
returns c =
    let all : AreVerdicts c.args.m.now c.loop-instr.warned = ends c.args.m.now _ _ _ c.as_slice-instr-items.result.now c.loop-instr.instr-index c.loop-instr-test.false c.loop-instr.invariant (verdicts c.args.m.now c.requires) in
    record { verdicts = all; clean = clean c.args.m.now c.loop-instr.warned all }

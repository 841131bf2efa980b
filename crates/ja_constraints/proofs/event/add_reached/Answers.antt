use Rattle.std.proofs.Common.{sym}
use Rattle.ja_constraints.proofs.Few.{few-targets, few-words}
use Rattle.ja_constraints.proofs.event.add_reached.Goals as goal

pub add_runs-requires-clause-next : goal.add_runs-requires-clause-next
add_runs-requires-clause-next c =
    few-targets c.args.p.now c.args.m c.args.i c.in-Some.method.now c.in-Some-instr_of.instr.now c.method_of.ensures.whole (sym c.in-Some.ensures.found) (sym c.in-Some-instr_of.ensures)

pub add_runs-requires-clause-words : goal.add_runs-requires-clause-words
add_runs-requires-clause-words c = few-words c.args.p.now c.args.m c.in-Some.method.now c.method_of.ensures.whole (sym c.in-Some.ensures.found)

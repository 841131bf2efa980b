use Rattle.std.proofs.Common.{sym}
use Rattle.ja_constraints.proofs.Few.{few-handed}
use Rattle.ja_firing.proofs.object.add_filled.Goals as goal

pub add_fills_bag-requires : goal.add_fills_bag-requires
add_fills_bag-requires c =
    few-handed c.args.p.now c.args.m c.args.i c.in-Some.method.now c.in-Some-instr_of.instr.now c.method_of.ensures.whole (sym c.in-Some.ensures.found) (sym c.in-Some-instr_of.ensures)

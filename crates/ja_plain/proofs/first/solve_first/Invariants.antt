use Rattle.std.proofs.Common.{[], drop, false, replicate}
use Rattle.ja_plain.specs.InnerPass.{flags_from}
use Rattle.ja_plain.proofs.Passing.{Passing}
use Rattle.ja_plain.proofs.first.solve_first.Given as goal

abbrev pub invariant-loop-instr : goal.invariant-loop-instr
invariant-loop-instr l = Passing (flags_from (replicate l.m.locals false) [] l.m.code) l.warned l.frame.locals.items l.frame.stack.items (drop l.instr-index l.instr-items)

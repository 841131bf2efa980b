use Rattle.std.proofs.Common.{◌≡◌, drop}
use Rattle.ja_code.specs.Faults.{first_failing, branch_checks}
use Rattle.ja_code.specs.InnerReading.{marked}
use Rattle.ja_code.proofs.branch.check_branches.Given as goal

-- the first fault is among the instructions that are left
abbrev pub invariant-loop-instr : goal.invariant-loop-instr
invariant-loop-instr l =
    first_failing (branch_checks (marked l.starts) (drop l.instr-index l.instrs)) ≡ first_failing (branch_checks (marked l.starts) l.instrs)

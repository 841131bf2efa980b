use Rattle.std.proofs.Common.{◌≡◌, map, take}
use Rattle.ja_facts.specs.ClassTables.{throws_before}
use Rattle.ja_facts.proofs.build.method_thrown.Given as goal

abbrev pub invariant-loop-instr : goal.invariant-loop-instr
invariant-loop-instr l = l.row ≡ map throws_before (take l.instr-index l.method.code)

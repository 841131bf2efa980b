use Rattle.std.proofs.Common.{◌≡◌, ◌+◌, take}
use Rattle.ja_lower.specs.Program.{instruction_count}
use Rattle.tool_parts.proofs.few.few_instructions.Given as goal

abbrev pub invariant-loop-class : goal.invariant-loop-class
invariant-loop-class l = l.left + instruction_count (take l.class-index l.classes) ≡ 67108864

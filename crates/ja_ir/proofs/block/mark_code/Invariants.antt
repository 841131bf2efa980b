use Rattle.std.proofs.Common.{◌≡◌, drop}
use Rattle.ja_ir.specs.InnerLeaders.{with_code}
use Rattle.ja_ir.proofs.block.mark_code.Given as goal

-- what is left to mark makes of the flags what all instructions make of those at the start
abbrev pub invariant-loop-index : goal.invariant-loop-index
invariant-loop-index l = with_code l.index (drop l.index l.code) l.starts ≡ with_code 0 l.code l.initial.starts

use Rattle.std.proofs.Common.{◌≡◌, drop}
use Rattle.ja_ir.specs.InnerLeaders.{with_handlers}
use Rattle.ja_ir.proofs.block.mark_handlers.Given as goal

-- what is left to mark makes of the flags what all handlers make of those at the start
abbrev pub invariant-loop-handler : goal.invariant-loop-handler
invariant-loop-handler l = with_handlers (drop l.handler-index l.handlers) l.starts ≡ with_handlers l.handlers l.initial.starts

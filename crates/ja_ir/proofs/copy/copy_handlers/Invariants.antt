use Rattle.std.proofs.Common.{◌≡◌, take}
use Rattle.ja_ir.proofs.copy.copy_handlers.Given as goal

abbrev pub invariant-loop-handler : goal.invariant-loop-handler
invariant-loop-handler l = l.copies ≡ take l.handler-index l.handlers

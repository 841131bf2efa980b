use Rattle.std.proofs.Common.{◌≡◌, take}
use Rattle.ja_methods.specs.Handlers.{handlers_of}
use Rattle.ja_methods.proofs.handler.handlers_of.Given as goal

abbrev pub invariant-loop-row : goal.invariant-loop-row
invariant-loop-row l = l.list ≡ handlers_of l.hier l.pool l.instrs (take l.row-index l.rows)

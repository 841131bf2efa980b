use Rattle.std.proofs.Common.{◌≡◌, drop, length}
use Rattle.ja_code.specs.Faults.{first_failing, handler_checks}
use Rattle.ja_code.specs.InnerReading.{marked}
use Rattle.ja_code.proofs.handler.check_handlers.Given as goal

-- the first fault is among the entries that are left
abbrev pub invariant-loop-number : goal.invariant-loop-number
invariant-loop-number l =
    first_failing (handler_checks l.tags (marked l.starts) (length l.starts) l.number (drop l.number l.rows))
    ≡ first_failing (handler_checks l.tags (marked l.starts) (length l.starts) 0 l.rows)

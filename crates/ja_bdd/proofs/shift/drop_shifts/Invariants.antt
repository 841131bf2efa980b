use Rattle.std.proofs.Common.{◌≡◌, length}
use Rattle.ja_bdd.proofs.Renewing.{IsThrough}
use Rattle.ja_bdd.proofs.shift.drop_shifts.Given as goal

abbrev pub invariant-loop-i : goal.invariant-loop-i
invariant-loop-i l = (length l.cache.items ≡ length l.fn.cache.items) × IsThrough l.fn.cache.items l.i l.cache.items

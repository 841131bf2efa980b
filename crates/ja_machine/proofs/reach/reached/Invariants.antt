use Rattle.std.proofs.Common.{◌+◌, length}
use Rattle.ja_machine.specs.InnerSeen.{seen_by}
use Rattle.ja_machine.proofs.Meets.{missing}
use Rattle.ja_machine.proofs.Explores.{Explores}
use Rattle.ja_machine.proofs.reach.reached.Given as goal

-- what was seen is reached, and leads to what was seen or is still to be looked at
abbrev pub invariant-loop-next : goal.invariant-loop-next
invariant-loop-next l = Explores l.h l.place (seen_by l.search)

-- the objects that were not seen, and those that are still to be looked at
abbrev pub decreases-loop-next : goal.decreases-loop-next
decreases-loop-next l = missing l.search.flags.items + length l.search.work.items

use Rattle.std.proofs.Common.{◌≡◌, ◌++◌, drop}
use Rattle.ja_explicit.specs.InnerSteps as steps
use Rattle.ja_explicit.proofs.landing.add_at_each.Given as goal

abbrev pub invariant-loop-index : goal.invariant-loop-index
invariant-loop-index l =
    l.out ++ steps.at_each l.standing.m l.standing.entry l.word (drop l.index-index l.next)
    ≡ l.fn.out ++ steps.at_each l.standing.m l.standing.entry l.word l.next

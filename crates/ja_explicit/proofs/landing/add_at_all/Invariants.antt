use Rattle.std.proofs.Common.{◌≡◌, ◌++◌, drop}
use Rattle.ja_explicit.specs.InnerSteps as steps
use Rattle.ja_explicit.proofs.landing.add_at_all.Given as goal

abbrev pub invariant-loop-word : goal.invariant-loop-word
invariant-loop-word l =
    l.out ++ steps.at_all l.standing.m l.standing.entry l.next (drop l.word-index l.words)
    ≡ l.fn.out ++ steps.at_all l.standing.m l.standing.entry l.next l.words

use Rattle.std.proofs.Common.{◌≡◌, ◌++◌, ◌-◌}
use Rattle.ja_explicit.specs.InnerSteps as steps
use Rattle.ja_explicit.specs.InnerWords as words
use Rattle.ja_explicit.proofs.storing.add_takers.Given as goal

abbrev pub invariant-loop-token : goal.invariant-loop-token
invariant-loop-token l =
    l.out ++ words.over (steps.takes_by l.p l.takers) l.token (l.count - l.token) ≡ l.fn.out ++ steps.takes_all l.p l.takers

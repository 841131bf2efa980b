use Rattle.std.proofs.Common.{◌≡◌, ◌++◌, drop}
use Rattle.ja_explicit.specs.InnerSteps as steps
use Rattle.ja_explicit.specs.InnerRules.{standing}
use Rattle.ja_explicit.specs.Tables.{items_of}
use Rattle.ja_explicit.proofs.calling.add_initializes.Given as goal

abbrev pub invariant-loop-n : goal.invariant-loop-n
invariant-loop-n l =
    l.out ++ steps.initializes l.p l.facts (items_of l.table) (standing l.standing_at) l.i l.height (drop l.n-index l.n-items)
    ≡ l.fn.out ++ steps.initializes l.p l.facts (items_of l.table) (standing l.standing_at) l.i l.height l.n-items

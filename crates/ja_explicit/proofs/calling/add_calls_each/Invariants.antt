use Rattle.std.proofs.Common.{◌≡◌, ◌++◌, drop, map}
use Rattle.ja_explicit.specs.InnerSteps as steps
use Rattle.ja_explicit.specs.InnerRules.{standing}
use Rattle.ja_explicit.specs.Tables.{items_of}
use Rattle.ja_tokens.specs.Shapes.{place_meant}
use Rattle.ja_explicit.proofs.calling.add_calls_each.Given as goal

abbrev pub invariant-loop-n : goal.invariant-loop-n
invariant-loop-n l =
    l.out ++ steps.calls_each l.p l.facts (items_of l.table) (standing l.standing_at) l.i l.next (map place_meant l.places) l.call l.under (drop l.n-index l.targets)
    ≡ l.fn.out ++ steps.calls_each l.p l.facts (items_of l.table) (standing l.standing_at) l.i l.next (map place_meant l.places) l.call l.under l.targets

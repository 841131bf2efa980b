use Rattle.std.proofs.Common.{◌≡◌, ◌++◌, drop, map}
use Rattle.ja_explicit.specs.InnerSteps as steps
use Rattle.ja_explicit.specs.InnerRules.{standing}
use Rattle.ja_tokens.specs.Shapes.{place_meant}
use Rattle.ja_explicit.proofs.landing.add_lands_each.Given as goal

abbrev pub invariant-loop-place : goal.invariant-loop-place
invariant-loop-place l =
    l.out ++ steps.lands_each (standing l.standing_at) l.word (map place_meant (drop l.place-index l.places))
    ≡ l.fn.out ++ steps.lands_each (standing l.standing_at) l.word (map place_meant l.places)

use Rattle.std.proofs.Common.{◌≡◌, ◌++◌, drop, map}
use Rattle.ja_explicit.specs.InnerSteps as steps
use Rattle.ja_explicit.specs.InnerRules.{standing}
use Rattle.ja_tokens.specs.Shapes.{place_meant}
use Rattle.ja_explicit.proofs.landing.add_lands_all.Given as goal

abbrev pub invariant-loop-word : goal.invariant-loop-word
invariant-loop-word l =
    l.out ++ steps.lands_all (standing l.standing_at) (map place_meant l.places) (drop l.word-index l.words)
    ≡ l.fn.out ++ steps.lands_all (standing l.standing_at) (map place_meant l.places) l.words

use Rattle.std.proofs.Common.{◌≡◌, ◌++◌, ◌-◌, map}
use Rattle.ja_explicit.specs.InnerSteps as steps
use Rattle.ja_explicit.specs.InnerWords as words
use Rattle.ja_tokens.specs.Shapes.{place_meant}
use Rattle.ja_explicit.proofs.landing.places_of.Given as goal

abbrev pub invariant-loop-token : goal.invariant-loop-token
invariant-loop-token l =
    map place_meant l.places ++ words.over (steps.places_of_token l.p l.thrown l.method l.i) l.token (l.count - l.token) ≡ steps.places_of l.p l.facts l.m l.i l.method

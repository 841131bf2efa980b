use Rattle.std.proofs.Common.{◌≡◌, ◌++◌, drop, map}
use Rattle.ja_tokens.specs.Shapes.{place_meant}
use Rattle.ja_explicit.proofs.landing.add_places.Given as goal

abbrev pub invariant-loop-place : goal.invariant-loop-place
invariant-loop-place l =
    map place_meant l.places ++ map place_meant (drop l.place-index l.more) ≡ map place_meant l.fn.places ++ map place_meant l.more

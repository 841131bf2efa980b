use Rattle.std.proofs.Common.{◌≡◌, ◌++◌, map, drop}
use Rattle.ja_tokens.specs.Shapes.{place_meant}
use Rattle.ja_firing.specs.Tokens as tokens
use Rattle.ja_firing.proofs.object.add_goes_each.Given as goal

abbrev pub invariant-loop-place : goal.invariant-loop-place
invariant-loop-place l =
    l.told ++ tokens.goes_each l.method l.token l.row l.locals (map place_meant (drop l.place-index l.places))
    ≡ l.fn.told ++ tokens.goes_each l.method l.token l.row l.locals (map place_meant l.places)

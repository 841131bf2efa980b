use Rattle.std.proofs.Common.{◌≡◌, ◌++◌, drop}
use Rattle.std.specs.Prelude.{map}
use Rattle.ja_ir.specs.Handlers.{dest_among}
use Rattle.ja_tokens.specs.Shapes.{place_meant}
use Rattle.ja_tokens.proofs.place.thrown_to.Given as goal

-- the places so far, and those at the handlers that are left
abbrev pub invariant-loop-handler : goal.invariant-loop-handler
invariant-loop-handler l = map place_meant l.places ++ dest_among l.p l.i l.token (drop l.handler-index l.handlers) ≡ dest_among l.p l.i l.token l.handlers

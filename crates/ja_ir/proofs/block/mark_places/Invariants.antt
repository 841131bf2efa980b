use Rattle.std.proofs.Common.{◌≡◌, drop}
use Rattle.ja_ir.specs.InnerLeaders.{with_places}
use Rattle.ja_ir.proofs.block.mark_places.Given as goal

-- what is left to mark makes of the flags what all places make of those at the start
abbrev pub invariant-loop-place : goal.invariant-loop-place
invariant-loop-place l = with_places (drop l.place-index l.places) l.starts ≡ with_places l.places l.initial.starts

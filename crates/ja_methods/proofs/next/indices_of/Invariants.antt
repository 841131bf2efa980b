use Rattle.std.proofs.Common.{◌≡◌, map, take}
use Rattle.ja_methods.specs.Places.{index_of}
use Rattle.ja_methods.proofs.next.indices_of.Given as goal

abbrev pub invariant-loop-place : goal.invariant-loop-place
invariant-loop-place l = l.list ≡ map (index_of l.instrs) (take l.place-index l.places)

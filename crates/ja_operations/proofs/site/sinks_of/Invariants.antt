use Rattle.std.proofs.Common.{◌≡◌, take, nat_lt}
use Rattle.std.specs.List.{filter}
use Rattle.ja_ir.specs.Operations.{arguments}
use Rattle.ja_operations.proofs.site.sinks_of.Given as goal

-- the sinks so far
abbrev pub invariant-loop-place : goal.invariant-loop-place
invariant-loop-place l = l.sinks ≡ filter (λ k. nat_lt k (arguments l.call)) (take l.place-index l.place-items)

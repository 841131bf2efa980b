use Rattle.std.proofs.Common.{◌≡◌, false, take}
use Rattle.ja_supertypes.specs.InnerForeign.{is_raised}
use Rattle.ja_supertypes.proofs.foreign.is_raised.Given as goal

abbrev pub invariant-loop-above : goal.invariant-loop-above
invariant-loop-above l = is_raised l.own (take l.above-index l.supers) ≡ false

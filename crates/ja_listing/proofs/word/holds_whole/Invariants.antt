use Rattle.std.proofs.Common.{◌≡◌, length}
use Rattle.ja_listing.specs.Word.{has_whole}
use Rattle.ja_listing.proofs.word.holds_whole.Given as goal

-- none stands before the rest
abbrev pub invariant-loop-rest : goal.invariant-loop-rest
invariant-loop-rest l = has_whole l.rest ≡ has_whole l.word

abbrev pub decreases-loop-rest : goal.decreases-loop-rest
decreases-loop-rest l = length l.rest

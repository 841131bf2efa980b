use Rattle.std.proofs.Common.{◌≡◌, ◌++◌, length}
use Rattle.ja_listing.specs.Word.{replaced}
use Rattle.ja_listing.proofs.word.replaced_of.Given as goal

-- the bytes so far and those for the rest are those for the word
abbrev pub invariant-loop-rest : goal.invariant-loop-rest
invariant-loop-rest l = l.out.items ++ replaced l.rest ≡ replaced l.word

abbrev pub decreases-loop-rest : goal.decreases-loop-rest
decreases-loop-rest l = length l.rest

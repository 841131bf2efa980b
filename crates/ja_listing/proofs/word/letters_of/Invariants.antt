use Rattle.std.proofs.Common.{◌≡◌, length}
use Rattle.ja_listing.specs.Word.{letters}
use Rattle.ja_listing.specs.InnerReading.{with_front}
use Rattle.ja_listing.proofs.word.letters_of.Given as goal

-- the bytes so far and those of the rest are those of the part
abbrev pub invariant-loop-rest : goal.invariant-loop-rest
invariant-loop-rest l = with_front l.bytes (letters l.rest) ≡ letters l.part

abbrev pub decreases-loop-rest : goal.decreases-loop-rest
decreases-loop-rest l = length l.rest

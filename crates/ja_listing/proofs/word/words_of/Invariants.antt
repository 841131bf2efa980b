use Rattle.std.proofs.Common.{◌≡◌, length}
use Rattle.ja_listing.specs.Text.{is_blank, parted}
use Rattle.ja_listing.specs.Word.{all_words}
use Rattle.ja_listing.specs.InnerReading.{with_front}
use Rattle.ja_listing.proofs.word.words_of.Given as goal

-- the words so far and those of the rest are those of the item
abbrev pub invariant-loop-rest : goal.invariant-loop-rest
invariant-loop-rest l = with_front l.words (all_words (parted is_blank l.rest)) ≡ all_words (parted is_blank l.item)

abbrev pub decreases-loop-rest : goal.decreases-loop-rest
decreases-loop-rest l = length l.rest

use Rattle.std.proofs.Common.{◌≡◌, length}
use Rattle.std.specs.Prelude.{slice_get}
use Rattle.ja_words.specs.Options.{plain_words}
use Rattle.ja_words.proofs.options.plain_at.Given as goal

-- the word that is left to find among the rest is the one that is sought
abbrev pub invariant-rest : goal.invariant-rest
invariant-rest l = slice_get (plain_words l.rest) l.left ≡ slice_get (plain_words l.fn.words) l.fn.place

abbrev pub decreases-rest : goal.decreases-rest
decreases-rest l = length l.rest

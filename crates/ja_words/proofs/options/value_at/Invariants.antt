use Rattle.std.proofs.Common.{◌≡◌, length}
use Rattle.std.specs.Prelude.{slice_get}
use Rattle.ja_words.specs.Options.{values_of}
use Rattle.ja_words.proofs.options.value_at.Given as goal

-- the value that is left to find among the rest is the one that is sought
abbrev pub invariant-rest : goal.invariant-rest
invariant-rest l = slice_get (values_of l.option l.rest) l.left ≡ slice_get (values_of l.fn.option l.fn.words) l.fn.place

abbrev pub decreases-rest : goal.decreases-rest
decreases-rest l = length l.rest

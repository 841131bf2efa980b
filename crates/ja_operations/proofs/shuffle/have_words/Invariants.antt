use Rattle.std.proofs.Common.{◌≡◌, drop}
use Rattle.ja_operations.specs.Shuffles.{have_words}
use Rattle.ja_operations.proofs.shuffle.have_words.Given as goal

-- what is left has its words exactly where all have
abbrev pub invariant-loop-place : goal.invariant-loop-place
invariant-loop-place l = have_words (drop l.place l.values) (drop l.place l.words) ≡ have_words l.values l.words

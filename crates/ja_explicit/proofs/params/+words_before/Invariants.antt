use Rattle.ja_explicit.proofs.params.+words_before.Given as goal

abbrev pub decreases-words_before : goal.decreases-words_before
decreases-words_before l = l.count

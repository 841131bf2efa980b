-- The words that parameters fill.
use Rattle.std.proofs.Common.{◌≡◌, List, [], ◌∷◌, length, refl, ◌∙◌, arith}
use Rattle.std.proofs.lemmas.List.{length-append}
use Rattle.std.proofs.lemmas.List.Sums.{sum_by-cons}
use Rattle.ja_base.specs.Kind.{words_of}
use Rattle.ja_base.specs.declared.java_type.Kind.{Kind}
use Rattle.ja_base.specs.declared.java_type.Kind.TheVariants.{P1, P2, R, T}
use Rattle.ja_kinds.specs.Frame.{filled, parameter_words, words}

filled_length : (k : Kind) → length (filled k) ≡ words_of k
filled_length P1 = refl
filled_length P2 = refl
filled_length R = refl
filled_length T = refl

-- parameters fill as many words as they have
pub words_filled : (ks : List Kind) → words ks ≡ length (parameter_words ks)
words_filled [] = refl
words_filled (k ∷ ks) =
    sum_by-cons words_of k ks ∙ omega (arith, words_filled ks, filled_length k, length-append (filled k) (parameter_words ks))

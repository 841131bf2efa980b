use Rattle.std.proofs.Common.{◌≡◌, ℕ, List, [], ◌∷◌, codes, ap, lit<}
use Rattle.ja_words.specs.Options.{limit_option, plain_words, values_of, workers_option}
use Rattle.ja_words.proofs.Digits.{one_given, one_number}
use Rattle.ja_words.proofs.law.law_one_command.Goals as goal

-- two lists behind one word
rest_of : (words : List (List ℕ)) (word : List ℕ) (rest others : List (List ℕ)) → words ≡ word ∷ rest → words ≡ word ∷ others → rest ≡ others
rest_of words word rest others is other_is = cc

pub returns-clause-one_analysis : goal.returns-clause-one_analysis
returns-clause-one_analysis c words dir other_dir workers other_workers limit other_limit one other =
    let same = rest_of words (codes "analyse") one.rest other.rest one.spelled other.spelled in
    let plain : plain_words one.rest ≡ plain_words other.rest = ap plain_words same in
    let a = one.asks in
    let b = other.asks in
    let only : plain_words one.rest ≡ dir ∷ [] = a.only in
    let other_only : plain_words other.rest ≡ other_dir ∷ [] = b.only in
    let dirs : dir ≡ other_dir = cc in (
      dirs,
      one_given _ _ _ (values_of workers_option one.rest) (values_of workers_option other.rest) _ _ (lit< tt) (ap (values_of workers_option) same) a.workers_given b.workers_given,
      one_given _ _ _ (values_of limit_option one.rest) (values_of limit_option other.rest) _ _ (lit< tt) (ap (values_of limit_option) same) a.limit_given b.limit_given,
    )

pub returns-clause-one_made : goal.returns-clause-one_made
returns-clause-one_made c words number other_number classes other_classes workers other_workers one other =
    let same = rest_of words (codes "generate") one.rest other.rest one.spelled other.spelled in
    let plain : plain_words one.rest ≡ plain_words other.rest = ap plain_words same in
    let a = one.asks.numbers in
    let b = other.asks.numbers in
    let only : plain_words one.rest ≡ a.first ∷ a.second ∷ [] = a.only in
    let other_only : plain_words other.rest ≡ b.first ∷ b.second ∷ [] = b.only in
    let first : a.first ≡ b.first = cc in
    let second : a.second ≡ b.second = cc in (
      one_number _ _ a.first b.first _ _ (lit< tt) first a.is_number b.is_number,
      one_number _ _ a.second b.second _ _ (lit< tt) second a.is_classes b.is_classes,
      one_given _ _ _ (values_of workers_option one.rest) (values_of workers_option other.rest) _ _ (lit< tt) (ap (values_of workers_option) same) one.asks.workers_given other.asks.workers_given,
    )

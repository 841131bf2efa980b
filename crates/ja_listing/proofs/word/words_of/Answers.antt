use Rattle.std.proofs.Common.{◌≡◌, ◌<◌, length, rules}
use Rattle.std.proofs.lemmas.Result.{err_from_is_err_and}
use Rattle.ja_listing.specs.Text.{is_blank, parted}
use Rattle.ja_listing.specs.Word.{all_words, words}
use Rattle.ja_listing.proofs.Words.{words_step, words_stop, words_end}
use Rattle.ja_listing.proofs.word.words_of.Goals as goal

pub returns-in_err-add_part : goal.returns-in_err-add_part
unfolding words
returns-in_err-add_part c =
    let some : 0 < length c.loop-rest.rest.now = search rules in
    let p = err_from_is_err_and c.from_residual.result c.from_residual.ensures.1 in
    let h = rw c.front-part.ensures at c.in_err-add_part.ensures in
    rw (p.1, p.2) (words_stop c.in_err-add_part.field-0.0 c.loop-rest.words c.loop-rest.rest.now c.word_len-len.result (all_words (parted is_blank c.args.item.now)) some c.word_len-len.ensures.len h c.loop-rest.invariant)

pub loop-rest-preserved : goal.loop-rest-preserved
loop-rest-preserved c =
    let some : 0 < length c.loop-rest.rest.now = search rules in
    let h = rw c.front-part.ensures at c.in_ok-add_part.ensures in
    words_step c.loop-rest.words c.add_part.new.words c.loop-rest.rest.now c.rest_behind-rest.result.now c.word_len-len.result (all_words (parted is_blank c.args.item.now))
    some c.word_len-len.ensures.len c.rest_behind-rest.ensures h c.loop-rest.invariant

pub returns : goal.returns
unfolding words
returns c =
    let none : length c.loop-rest.rest.now ≡ 0 = search rules in
    words_end c.loop-rest.words c.loop-rest.rest.now (all_words (parted is_blank c.args.item.now)) none c.loop-rest.invariant

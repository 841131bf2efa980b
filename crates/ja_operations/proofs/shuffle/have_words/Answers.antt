use Rattle.std.proofs.Common.{◌≢◌, length, sym, arith}
use Rattle.ja_operations.proofs.Words.{unlike}
use Rattle.ja_operations.proofs.shuffle.have_words.Goals as goal

pub returns-then-values-words : goal.returns-then-values-words
returns-then-values-words c =
    let differ : length c.args.values.now ≢ length c.args.words.now = omega arith in
    sym (unlike c.args.values.now c.args.words.now differ)

use Rattle.std.proofs.Common.{sym, ◌∙◌}
use Rattle.ja_listing.proofs.Words.{sink_words, source_words}
use Rattle.ja_listing.proofs.word.add_bare.Goals as goal

pub returns-then-is_word-2 : goal.returns-then-is_word-2
returns-then-is_word-2 c =
    rw (sink_words c.args.bytes.now (sym c.is_word.ensures ∙ c.if-is_word.false) (sym c.is_word-2.ensures ∙ c.if-is_word-2.true)) c.add_call.ensures

pub returns-then-is_word-3 : goal.returns-then-is_word-3
returns-then-is_word-3 c =
    rw (source_words c.args.bytes.now (sym c.is_word.ensures ∙ c.if-is_word.false) (sym c.is_word-2.ensures ∙ c.if-is_word-2.false) (sym c.is_word-3.ensures ∙ c.if-is_word-3.true)) c.add_call-then-is_word-3.ensures

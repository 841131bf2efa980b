use Rattle.std.proofs.Common.{◌≤◌, ◌++◌, List, length, sym, subst, ap, ◌∙◌, arith}
use Rattle.ja_explicit.specs.declared.chance.Chance.{Chance}
use Rattle.ja_explicit.specs.InnerWords as words
use Rattle.ja_explicit.specs.InnerRules.{clauses_of}
use Rattle.ja_explicit.proofs.Looping.{over_more}
use Rattle.ja_explicit.proofs.stepping.next_words.Goals as goal

pub add_word-requires : goal.add_word-requires
add_word-requires c = omega (arith, subst (λ (xs : List Chance). length xs ≤ 12) (sym c.as_slice.ensures) c.in_ok-allowed.ensures.few)

pub loop-next-preserved : goal.loop-next-preserved
loop-next-preserved c =
    over_more (words.word_if (words.chances c.args.to.now (clauses_of c.args.rule.now) (words.says c.args.from.now c.args.word))) c.loop-next.next c.word_count-count.result c.loop-next.list c.add_word.new.list
    (words.next_words c.args.to.now (clauses_of c.args.rule.now) (words.says c.args.from.now c.args.word)) c.loop-next-test.true
    (c.in_ok-add_word.ensures ∙ ap (λ (cs : List Chance). c.loop-next.list ++ words.word_if cs c.loop-next.next) (c.as_slice.ensures ∙ c.in_ok-allowed.ensures.chances)) c.loop-next.invariant

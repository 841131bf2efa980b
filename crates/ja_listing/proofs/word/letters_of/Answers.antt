use Rattle.std.proofs.Common.{sym, ◌∙◌}
use Rattle.std.proofs.lemmas.List.{take_rest}
use Rattle.ja_listing.specs.Word.{letters}
use Rattle.ja_listing.proofs.Words.{letters_step}
use Rattle.ja_listing.proofs.word.letters_of.Goals as goal

pub loop-rest-preserved : goal.loop-rest-preserved
loop-rest-preserved c =
    letters_step c.loop-rest.bytes c.push.new.self c.loop-rest.rest.now _ c.in-Some.byte (letters c.args.part.now)
    (sym c.first_letter.ensures ∙ c.in-Some.is) c.in_ok-push.ensures.ok (take_rest c.loop-rest.rest.now 1) c.loop-rest.invariant

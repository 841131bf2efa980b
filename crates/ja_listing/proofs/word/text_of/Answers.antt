use Rattle.std.proofs.Common.{Some, ap, sym, ◌∙◌}
use Rattle.std.proofs.lemmas.List.{take_rest}
use Rattle.ja_listing.specs.Word.{closed}
use Rattle.ja_listing.proofs.Words.{closed_step, closed_early, closed_end}
use Rattle.ja_listing.proofs.word.text_of.Goals as goal

pub returns-then-rest-gt1 : goal.returns-then-rest-gt1
returns-then-rest-gt1 c =
    closed_early c.loop-rest.bytes c.loop-rest.rest.now c.in-Some.byte (closed c.args.part.now)
    (sym c.first_quoted.ensures ∙ c.in-Some.is) c.if-byte-eq34.true c.if-rest-gt1.true c.loop-rest.invariant

pub returns-then-byte-eq34 : goal.returns-then-byte-eq34
returns-then-byte-eq34 c =
    closed_end c.loop-rest.bytes c.loop-rest.rest.now c.in-Some.byte (closed c.args.part.now)
    (sym c.first_quoted.ensures ∙ c.in-Some.is) c.if-byte-eq34.true c.if-rest-gt1.false c.loop-rest.invariant
    ∙ ap (λ bs. Some bs) (sym (c.from_vec.ensures ∙ c.into_vec.ensures))

pub loop-rest-preserved : goal.loop-rest-preserved
loop-rest-preserved c =
    closed_step c.loop-rest.bytes c.push.new.self c.loop-rest.rest.now _ c.in-Some.byte (closed c.args.part.now)
    (sym c.first_quoted.ensures ∙ c.in-Some.is) c.if-byte-eq34.false c.in_ok-push.ensures.ok (take_rest c.loop-rest.rest.now 1) c.loop-rest.invariant

use Rattle.std.proofs.Common.{◌≢◌, ◌-◌, ◌∙◌, length, sym, arith}
use Rattle.std.proofs.lemmas.Bool.{eqb-false, false≢true}
use Rattle.std.proofs.lemmas.List.{take_rest}
use Rattle.ja_bytes.proofs.TextParts.{reads_on, stops, wrong_is_no_text}
use Rattle.ja_bytes.proofs.text.modified_utf8.Goals as goal

pub loop-rest-preserved : goal.loop-rest-preserved
loop-rest-preserved c = rw take_rest (reads_on c.args.bytes.now c.loop-rest.rest.now c.in-Some.n c.loop-rest.invariant c.in-Some.ensures.character)

pub returns-in-None-clause-text : goal.returns-in-None-clause-text
returns-in-None-clause-text c =
    let bytes = c.args.bytes.now in
    let rest = c.loop-rest.rest.now in
    let some : length rest ≢ 0 = eqb-false _ _ (sym c.is_empty.ensures ∙ c.loop-rest-test.true) in
    let wrong = stops bytes rest c.loop-rest.invariant (omega arith) c.in-None.ensures.none in
    (λ e. absurd (false≢true e), λ text. absurd (wrong_is_no_text bytes (length bytes - length rest) wrong text))

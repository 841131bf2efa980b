use Rattle.std.proofs.Common.{◌≡◌, sym, ◌∙◌, arith}
use Rattle.std.proofs.lemmas.Fmt.{decimal_injective}
use Rattle.ja_words.proofs.number.number_in.Goals as goal

pub returns-then-number-least-clause-none : goal.returns-then-number-least-clause-none
returns-then-number-least-clause-none c none number is =
    let same : c.in_ok-number.number ≡ number =
    decimal_injective _ _ c.in_ok-number.ensures.fits (omega (arith, is.high)) (sym c.in_ok-number.ensures.found ∙ is.spelled) in
    absurd (omega (arith, is.low))

pub returns-then-most-number-clause-none : goal.returns-then-most-number-clause-none
returns-then-most-number-clause-none c none number is =
    let same : c.in_ok-number.number ≡ number =
    decimal_injective _ _ c.in_ok-number.ensures.fits (omega (arith, is.high)) (sym c.in_ok-number.ensures.found ∙ is.spelled) in
    absurd (omega (arith, is.high))

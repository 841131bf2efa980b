use Rattle.std.proofs.Common.{◌≡◌, ◌≢◌, List, ℕ, ◌<◌, length, get_or, sym, ◌∙◌, subst}
use Rattle.std.specs.Prelude.{IsUtf8}
use Rattle.ja_words.proofs.Digits.{begins_otherwise, digits_are_text, no_digits, read_digits}
use Rattle.ja_words.proofs.number.number_of.Goals as goal

pub returns-then-not-begins_plainly-clause-none : goal.returns-then-not-begins_plainly-clause-none
returns-then-not-begins_plainly-clause-none c none number small is =
    begins_otherwise c.bytes-bytes.result.now
    (λ plain. let begins = c.begins_plainly.ensures.1 plain in cc (begins, c.if-not-begins_plainly.true))
    number small (c.bytes-bytes.ensures ∙ is)

pub returns-in_default-clause-none : goal.returns-in_default-clause-none
returns-in_default-clause-none c none number small is =
    c.in_default.ensures.cases.0 (subst IsUtf8 (sym (c.bytes-bytes.ensures ∙ is)) (digits_are_text number small))

pub returns-in_default-parse-clause-none : goal.returns-in_default-parse-clause-none
returns-in_default-parse-clause-none c none number small is =
    no_digits c.in-Ok.text.now c.parse.result c.in_default-parse.field-0 c.parse.ensures.value.0 c.in_default-parse.is number small
    (c.in-Ok.ensures.cases.0 ∙ c.bytes-bytes.ensures ∙ is)

pub returns-clause-found : goal.returns-clause-found
returns-clause-found c =
    let bytes : c.in-Ok.text.now ≡ c.bytes-bytes.result.now = c.in-Ok.ensures.cases.0 in
    let plain = c.begins_plainly.ensures.0 c.if-not-begins_plainly.false in
    let P : List ℕ → Type 0 = λ bs. (0 < length bs) × (get_or bs 0 0 ≢ 43) × (get_or bs 0 0 ≡ 48 → length bs ≡ 1) in
    let begins = subst P (sym bytes) plain in
    sym c.bytes-bytes.ensures ∙ sym bytes
    ∙ read_digits c.in-Ok.text.now c.parse.result c.in-Ok-parse.number begins.0 begins.1 begins.2 c.parse.ensures.value.0 c.in-Ok-parse.is

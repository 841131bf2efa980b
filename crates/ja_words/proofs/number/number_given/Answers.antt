use Rattle.std.proofs.Common.{◌≡◌, [], ◌∷◌}
use Rattle.ja_words.specs.Numbers.{IsGiven, not_given, given, IsNumberIn}
use Rattle.ja_words.specs.Options.{values_of}
use Rattle.ja_words.proofs.Given.{given_twice, of_value}
use Rattle.ja_words.proofs.Listed.{no_item, one_item, weaker}
use Rattle.ja_words.proofs.number.number_given.Goals as goal

pub returns-in_default-clause-found : goal.returns-in_default-clause-found
returns-in_default-clause-found c = not_given (no_item (values_of c.args.option.now c.args.words.now) c.in_default.ensures)

pub returns-in-Some-value_at-clause-none : goal.returns-in-Some-value_at-clause-none
returns-in-Some-value_at-clause-none c none number is =
    given_twice _ _ _ (values_of c.args.option.now c.args.words.now) c.in-Some-value_at.field-0.now number c.in-Some-value_at.ensures is

pub returns-in-None-clause-found : goal.returns-in-None-clause-found
returns-in-None-clause-found c =
    let values = values_of c.args.option.now c.args.words.now in
    let one : values ≡ c.in-Some.value.now ∷ [] = one_item values c.in-Some.value.now c.in-Some.ensures c.in-None.ensures in
    weaker c.number_in.result (IsNumberIn c.args.least c.args.most c.in-Some.value.now) (IsGiven c.args.otherwise c.args.least c.args.most values)
    (λ number is. given c.in-Some.value.now number one is) c.number_in.ensures.found

pub returns-in-None-clause-none : goal.returns-in-None-clause-none
returns-in-None-clause-none c none number is =
    let values = values_of c.args.option.now c.args.words.now in
    let one : values ≡ c.in-Some.value.now ∷ [] = one_item values c.in-Some.value.now c.in-Some.ensures c.in-None.ensures in
    c.number_in.ensures.none none number (of_value c.args.otherwise c.args.least c.args.most values c.in-Some.value.now number one is)

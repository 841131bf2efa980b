use Rattle.std.proofs.Common.{◌≡◌, ℕ, List, ◌∷◌, codes, refl, sym, ap, ◌∙◌}
use Rattle.ja_words.proofs.Asked.{is_analysis, is_made, other_command, wrong_words}
use Rattle.ja_words.proofs.Listed.{first_and_others}
use Rattle.ja_words.proofs.command.command_of.Goals as goal

pub returns-in_err-dir-clause-wrong : goal.returns-in_err-dir-clause-wrong
returns-in_err-dir-clause-wrong c none =
    let rest = c.rest_of-rest.result.now in
    let split : c.args.words.now ≡ c.command-item.result ∷ rest =
    first_and_others c.args.words.now c.command-item.result c.in-len1-up.len_at_least c.command-item.is ∙ ap (λ (r : List (List ℕ)). c.command-item.result ∷ r) (sym c.rest_of-rest.ensures) in
    let is : c.command-item.result ≡ codes "analyse" = c.is_word-analyses.ensures.0 c.if-analyses.true in
    wrong_words c.args.words.now c.command-item.result rest split
    (λ same dir workers limit asks. c.in_err-dir.ensures.none refl dir workers limit asks)
    (λ same. absurd (other_command (sym is ∙ same)))

pub returns-in_err-number-clause-wrong : goal.returns-in_err-number-clause-wrong
returns-in_err-number-clause-wrong c none =
    let rest = c.rest_of-rest.result.now in
    let split : c.args.words.now ≡ c.command-item.result ∷ rest =
    first_and_others c.args.words.now c.command-item.result c.in-len1-up.len_at_least c.command-item.is ∙ ap (λ (r : List (List ℕ)). c.command-item.result ∷ r) (sym c.rest_of-rest.ensures) in
    let is : c.command-item.result ≡ codes "generate" = c.is_word-makes.ensures.0 c.if-makes.true in
    wrong_words c.args.words.now c.command-item.result rest split
    (λ same. absurd (other_command (sym same ∙ is)))
    (λ same number classes workers asks. c.in_err-number.ensures.none refl number classes workers asks)

pub returns-in_ok-dir-clause-found : goal.returns-in_ok-dir-clause-found
returns-in_ok-dir-clause-found c =
    let rest = c.rest_of-rest.result.now in
    let split : c.args.words.now ≡ c.command-item.result ∷ rest =
    first_and_others c.args.words.now c.command-item.result c.in-len1-up.len_at_least c.command-item.is ∙ ap (λ (r : List (List ℕ)). c.command-item.result ∷ r) (sym c.rest_of-rest.ensures) in
    is_analysis c.args.words.now c.command-item.result rest _ _ _ split (c.is_word-analyses.ensures.0 c.if-analyses.true) c.in_ok-dir.ensures.found

pub returns-in_ok-number-clause-found : goal.returns-in_ok-number-clause-found
returns-in_ok-number-clause-found c =
    let rest = c.rest_of-rest.result.now in
    let split : c.args.words.now ≡ c.command-item.result ∷ rest =
    first_and_others c.args.words.now c.command-item.result c.in-len1-up.len_at_least c.command-item.is ∙ ap (λ (r : List (List ℕ)). c.command-item.result ∷ r) (sym c.rest_of-rest.ensures) in
    is_made c.args.words.now c.command-item.result rest _ _ _ split (c.is_word-makes.ensures.0 c.if-makes.true) c.in_ok-number.ensures.found

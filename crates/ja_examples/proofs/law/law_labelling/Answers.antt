use Rattle.std.proofs.Common.{lit<, refl}
use Rattle.std.proofs.lemmas.Fmt.{decimal_digit}
use Rattle.ja_examples.proofs.Labelled.{sql_clean, page_warned}
use Rattle.ja_examples.proofs.law.law_labelling.Goals as goal

pub returns : goal.returns
returns c = record {
  verdicts = ((λ t. absurd (cc t), λ w. absurd (sql_clean w)), ((λ t. page_warned, λ w. refl), tt));
  report = rw (decimal_digit 1 (lit< tt), decimal_digit 2 (lit< tt), decimal_digit 3 (lit< tt)) refl;
}

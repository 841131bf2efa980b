use Rattle.std.proofs.Common.{refl}
use Rattle.ja_words.specs.Options.{limit_option, values_of}
use Rattle.ja_words.proofs.Listed.{no_item}
use Rattle.ja_words.proofs.command.made_of.Goals as goal

pub returns-in_err-number-clause-none : goal.returns-in_err-number-clause-none
returns-in_err-number-clause-none c none number classes workers asks = c.in_err-number.ensures.none refl number classes asks.numbers

pub returns-in-None-clause-found : goal.returns-in-None-clause-found
returns-in-None-clause-found c = record {
  numbers = c.in_ok-number.ensures.found;
  workers_given = c.in_ok-workers.ensures.found;
  no_limit = no_item (values_of limit_option c.args.words.now) c.in-None.ensures;
}

use Rattle.ja_words.specs.Options.{plain_words}
use Rattle.ja_words.proofs.Listed.{two_items}
use Rattle.ja_words.proofs.command.two_words.Goals as goal

pub returns-in-None-clause-only : goal.returns-in-None-clause-only
returns-in-None-clause-only c =
    two_items (plain_words c.args.words.now) c.in_ok-first.first.now c.in_ok-second.second.now c.in_ok-first.ensures c.in_ok-second.ensures c.in-None.ensures

use Rattle.ja_words.specs.Options.{plain_words}
use Rattle.ja_words.proofs.Listed.{one_item}
use Rattle.ja_words.proofs.command.directory_of.Goals as goal

pub returns-in-None-clause-only : goal.returns-in-None-clause-only
returns-in-None-clause-only c = one_item (plain_words c.args.words.now) c.in_ok-dir.dir.now c.in_ok-dir.ensures c.in-None.ensures

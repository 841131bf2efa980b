use Rattle.ja_assembly.proofs.ArgumentWords.{words_are}
use Rattle.ja_assembly.proofs.law.law_argument_words.Goals as goal

pub returns : goal.returns
returns c = words_are

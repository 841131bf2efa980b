use Rattle.ja_node_core.proofs.Words.{var_unpacked, low_unpacked, high_unpacked}
use Rattle.ja_node_core.proofs.word.Parts.of_word.Goals as goal

pub returns : goal.returns
returns c = (var_unpacked c.args.word, low_unpacked c.args.word, high_unpacked c.args.word)

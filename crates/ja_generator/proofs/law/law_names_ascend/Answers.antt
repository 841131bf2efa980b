use Rattle.ja_generator.proofs.Names.{names-ascend}
use Rattle.ja_generator.proofs.law.law_names_ascend.Goals as goal

pub returns : goal.returns
returns c = names-ascend

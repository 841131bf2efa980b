use Rattle.ja_kinds.proofs.Reached.{all_reached}
use Rattle.ja_kinds.proofs.law.law_reached.Goals as goal

pub returns : goal.returns
returns c = λ class spelled m code frame has at are. all_reached class spelled m code frame has at are

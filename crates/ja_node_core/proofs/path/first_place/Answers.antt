use Rattle.std.proofs.Common.{◌+◌, ap, ◌∙◌}
use Rattle.ja_node_core.proofs.Words.{first_is}
use Rattle.ja_node_core.proofs.path.first_place.Goals as goal

pub returns : goal.returns
returns c = ap (λ h. 2 + h) c.hash.ensures.0 ∙ first_is c.args.slots c.args.word

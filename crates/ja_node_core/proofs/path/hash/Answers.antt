use Rattle.std.proofs.Common.{arith}
use Rattle.ja_node_core.proofs.Words.{hash_is}
use Rattle.ja_node_core.proofs.path.hash.Goals as goal

pub returns : goal.returns
returns c = hash_is c.args.slots c.args.word c.factor.result c.factor.ensures (omega arith)

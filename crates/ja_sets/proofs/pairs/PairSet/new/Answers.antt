use Rattle.std.proofs.Common.{◌∙◌, ap}
use Rattle.ja_sets.specs.InnerRows.{rows}
use Rattle.ja_sets.proofs.Squares.{rows-zeros}
use Rattle.ja_sets.proofs.pairs.PairSet.new.Goals as goal

pub returns : goal.returns
returns c = ap (rows c.args.n) c.in_ok-bits.ensures ∙ rows-zeros c.args.n

use Rattle.ja_sets.proofs.Squares.{place-there, viewed-has}
use Rattle.ja_sets.proofs.pairs.PairSet.contains.Goals as goal

pub get-requires : goal.get-requires
get-requires c = place-there c.self.inside.n c.self.inside.bits c.args.self.now c.args.x.0 c.args.x.1 c.self.invariant c.self.view_is c.requires.first c.requires.second

pub returns : goal.returns
returns c = viewed-has c.self.inside.n c.self.inside.bits c.args.self.now c.args.x.0 c.args.x.1 c.self.invariant c.self.view_is c.requires.first c.requires.second c.get.result c.get.ensures

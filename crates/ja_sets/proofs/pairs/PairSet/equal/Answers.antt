use Rattle.ja_sets.proofs.Squares.{as-many, viewed-equal}
use Rattle.ja_sets.proofs.pairs.PairSet.equal.Goals as goal

pub equal-requires : goal.equal-requires
equal-requires c = as-many c.self.inside.n c.o.inside.n c.self.inside.bits c.o.inside.bits c.args.self.now c.args.o.now c.self.invariant c.o.invariant c.self.view_is c.o.view_is c.requires

pub returns : goal.returns
returns c = viewed-equal c.self.inside.n c.o.inside.n c.self.inside.bits c.o.inside.bits c.args.self.now c.args.o.now c.self.invariant c.o.invariant c.self.view_is c.o.view_is c.requires c.equal.result c.equal.ensures

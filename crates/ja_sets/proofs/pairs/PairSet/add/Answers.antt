use Rattle.ja_sets.proofs.Squares.{place-there, viewed-set, viewed-lacks, square-rows}
use Rattle.ja_sets.proofs.pairs.PairSet.add.Goals as goal

pub set-requires : goal.set-requires
set-requires c = place-there c.self.inside.n c.self.inside.bits c.args.self.now c.args.x.0 c.args.x.1 c.self.invariant c.self.view_is c.requires.first c.requires.second

pub returns-clause-set : goal.returns-clause-set
returns-clause-set c = viewed-set c.self.inside.n c.self.inside.bits c.args.self.now c.args.x.0 c.args.x.1 c.self.invariant c.self.view_is c.requires.first c.requires.second c.set.new.self c.set.ensures.set

pub returns-clause-changed : goal.returns-clause-changed
returns-clause-changed c = viewed-lacks c.self.inside.n c.self.inside.bits c.args.self.now c.args.x.0 c.args.x.1 c.self.invariant c.self.view_is c.requires.first c.requires.second c.set.result c.set.ensures.changed

pub returns-clause-square : goal.returns-clause-square
returns-clause-square c = square-rows c.self.inside.n c.self.inside.bits c.args.self.now c.self.invariant c.self.view_is

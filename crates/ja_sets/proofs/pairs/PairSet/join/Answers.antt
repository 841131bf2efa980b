use Rattle.ja_sets.proofs.Squares.{as-many, viewed-square, viewed-union, viewed-adds, square-rows}
use Rattle.ja_sets.proofs.pairs.PairSet.join.Goals as goal

pub join-requires : goal.join-requires
join-requires c = as-many c.self.inside.n c.o.inside.n c.self.inside.bits c.o.inside.bits c.args.self.now c.args.o.now c.self.invariant c.o.invariant c.self.view_is c.o.view_is c.requires

pub returns-clause-joined : goal.returns-clause-joined
returns-clause-joined c = viewed-union c.self.inside.n c.o.inside.n c.self.inside.bits c.o.inside.bits c.args.self.now c.args.o.now c.self.invariant c.o.invariant c.self.view_is c.o.view_is c.requires c.join.new.self c.join.ensures.joined

pub returns-clause-changed : goal.returns-clause-changed
returns-clause-changed c = viewed-adds c.self.inside.n c.o.inside.n c.self.inside.bits c.o.inside.bits c.args.self.now c.args.o.now c.self.invariant c.o.invariant c.self.view_is c.o.view_is c.requires c.join.result c.join.ensures.changed

pub invariant_of-self : goal.invariant_of-self
invariant_of-self c = viewed-square c.self.inside.n c.o.inside.n c.self.inside.bits c.o.inside.bits c.args.self.now c.args.o.now c.self.invariant c.o.invariant c.self.view_is c.o.view_is c.requires c.join.new.self c.join.ensures.joined

pub returns-clause-square : goal.returns-clause-square
returns-clause-square c = square-rows c.self.inside.n c.self.inside.bits c.args.self.now c.self.invariant c.self.view_is

pub returns-clause-other_square : goal.returns-clause-other_square
returns-clause-other_square c = square-rows c.o.inside.n c.o.inside.bits c.args.o.now c.o.invariant c.o.view_is

use Rattle.std.proofs.Common.{refl}
use Rattle.ja_clauses.proofs.Read.{found_in}
use Rattle.ja_clauses.proofs.Ways.{params_few, same_affected}
use Rattle.ja_clauses.proofs.through.Through.of.Goals as goal

pub invariant_of-result : goal.invariant_of-result
invariant_of-result c =
    let found = found_in c.args.program.now c.args.n.0 _ c.at.result.now c.methods.ensures.same c.at.ensures in
    record { fits = c.requires.fits; few = params_few c.args.program.now c.args.n.0 c.at.result.now c.methods.ensures.whole found }

pub returns-clause-through : goal.returns-clause-through
returns-clause-through c = record {
  before = c.of.ensures.before;
  callee = found_in c.args.program.now c.args.n.0 _ c.at.result.now c.methods.ensures.same c.at.ensures;
  effects = refl;
  number = refl;
  counted = refl;
  lies = refl;
}

pub returns-clause-affected : goal.returns-clause-affected
returns-clause-affected c = same_affected c.args.program.now c.args.facts.now c.args.m.0 c.args.i c.args.n.0 c.args.count c.args.under _ (returns-clause-through c)

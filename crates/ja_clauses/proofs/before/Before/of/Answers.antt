use Rattle.std.proofs.Common.{refl}
use Rattle.ja_clauses.proofs.Read.{pairs_there, reach_there, pairs_counted, reach_counted, frame_small, found_in, before_made, same_tests}
use Rattle.ja_clauses.proofs.before.Before.of.Goals as goal

pub at-requires-2 : goal.at-requires-2
at-requires-2 c =
    let found = found_in c.args.program.now c.args.m.0 _ c.at.result.now c.methods-methods.ensures.same c.at.ensures in
    pairs_there c.args.program.now c.args.facts.now c.args.m.0 c.args.i c.at.result.now c.requires.shaped found c.requires.index

pub at-requires-3 : goal.at-requires-3
at-requires-3 c =
    let found = found_in c.args.program.now c.args.m.0 _ c.at.result.now c.methods-methods.ensures.same c.at.ensures in
    reach_there c.args.program.now c.args.facts.now c.args.m.0 c.args.i c.at.result.now c.requires.shaped found c.requires.index

pub invariant_of-result : goal.invariant_of-result
invariant_of-result c =
    let found = found_in c.args.program.now c.args.m.0 _ c.at.result.now c.methods-methods.ensures.same c.at.ensures in
    record {
      small = frame_small c.args.program.now c.args.m.0 c.at.result.now c.methods-methods.ensures.whole found;
      pairs_count = pairs_counted c.args.program.now c.args.facts.now c.args.m.0 c.args.i c.at.result.now c.requires.shaped found c.requires.index c.at-2.result.now c.at-2.ensures;
      reach_count = reach_counted c.args.program.now c.args.facts.now c.args.m.0 c.args.i c.at.result.now c.requires.shaped found c.requires.index c.at-3.result.now c.at-3.ensures;
    }

pub returns-clause-before : goal.returns-clause-before
returns-clause-before c = before_made c.args.program.now c.args.facts.now c.args.m.0 c.args.i _ _ c.targets-targets.result.now c.methods-methods.ensures.same c.targets-targets.ensures c.at.ensures c.at-2.ensures c.at-3.ensures c.is_abstract.ensures refl

pub returns-clause-tests : goal.returns-clause-tests
returns-clause-tests c = same_tests c.args.program.now c.args.facts.now c.args.m.0 c.args.i _ (returns-clause-before c)

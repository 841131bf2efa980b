use Rattle.std.proofs.Common.{sym}
use Rattle.ja_constraints.proofs.Few.{few-method-types}
use Rattle.ja_constraints.proofs.start.add_gives_to.Goals as goal

pub add_gives_all-requires-clause-few : goal.add_gives_all-requires-clause-few
add_gives_all-requires-clause-few c = few-method-types c.args.p.now c.args.entry.now.method.0 c.in-Some.method.now c.method_of.ensures.whole (sym c.in-Some.ensures.found)

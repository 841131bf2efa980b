use Rattle.std.proofs.Common.{subst, IfOk}
use Rattle.ja_bdd.specs.Meaning.{IsMeant}
use Rattle.ja_bdd.specs.Workers.{seen}
use Rattle.ja_formula.proofs.Clausal.{at_most_clause}
use Rattle.ja_formula.proofs.clause.at_most_node.Goals as goal

pub returns-clause-ok : goal.returns-clause-ok
returns-clause-ok g c =
    subst (λ χ. IfOk c.tied_gathered.result (λ n. IsMeant (seen c.tied_gathered.new.worker) n.number χ)) (at_most_clause c.args.frame.now c.args.clause.now c.args.spot c.requires.within c.requires.exact c.requires.varies) c.tied_gathered.ensures.ok

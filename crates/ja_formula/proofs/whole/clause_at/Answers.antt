use Rattle.ja_bdd.specs.Workers.{seen}
use Rattle.std.proofs.lemmas.Result.{IfErr-weaker}
use Rattle.ja_formula.specs.Made.{IsClausePart, IsRulePart, LacksRoomFor}
use Rattle.ja_formula.specs.Inner.{clauses_of}
use Rattle.ja_formula.proofs.Meant.{lacks_wider}
use Rattle.ja_formula.proofs.Ruled.{clause_part}
use Rattle.ja_formula.proofs.whole.clause_at.Goals as goal

pub clause_node-requires-clause-aim : goal.clause_node-requires-clause-aim
clause_node-requires-clause-aim g c κs within φ part =
    c.requires.aim φ (clause_part c.args.frame.now (clauses_of c.args.rule.now) c.args.place c.spot_at-spot.result c.clause_of-clause.result c.requires.place c.spot_at-spot.ensures.spot c.clause_of-clause.ensures φ part)

pub returns-clause-full : goal.returns-clause-full
returns-clause-full g c =
    let t = c.args.table.now in
    let k = seen c.clause_node.new.worker in
    let frame = c.args.frame.now in
    let clauses = clauses_of c.args.rule.now in
    let some = IsClausePart frame c.clause_of-clause.result c.spot_at-spot.result in
    IfErr-weaker c.clause_node.result (LacksRoomFor t k some) (LacksRoomFor t k (IsRulePart frame clauses))
    (λ e. lacks_wider t k some (IsRulePart frame clauses) e
    (clause_part frame clauses c.args.place c.spot_at-spot.result c.clause_of-clause.result c.requires.place c.spot_at-spot.ensures.spot c.clause_of-clause.ensures))
    c.clause_node.ensures.full

use Rattle.std.proofs.lemmas.Result.{on_ok_weaker}
use Rattle.ja_solving.proofs.Solved.{worked-turn}
use Rattle.ja_solving.proofs.working.work_turn.Goals as goal

pub returns-clause-working : goal.returns-clause-working
returns-clause-working c =
    on_ok_weaker c.end_turn.result
    (worked-turn c.args.p.now c.args.names.now c.args.net.now c.fire_links.new.net c.end_turn.new.self c.args.cell c.in_ok-fresh.fresh c.requires.network c.requires.working
    c.in_ok-fresh.ensures.same c.in_ok-fire_links.ensures.extends)
    c.end_turn.ensures.settles

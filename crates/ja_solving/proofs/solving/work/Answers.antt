use Rattle.ja_solving.proofs.Solved.{solved}
use Rattle.ja_solving.proofs.solving.work.Goals as goal

pub returns-then-branch-clause-solved : goal.returns-then-branch-clause-solved
returns-then-branch-clause-solved c =
    solved c.args.p.now c.args.names.now c.step.new.net c.in_ok-step.ensures.working (c.in_ok-step.ensures.quiet c.if-branch.true)

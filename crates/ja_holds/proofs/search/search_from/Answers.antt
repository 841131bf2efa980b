use Rattle.std.proofs.Common.{◌∙◌}
use Rattle.ja_holds.proofs.Searching.{finds}
use Rattle.ja_holds.proofs.search.search_from.Goals as goal

pub returns : goal.returns
returns c =
    finds c.args.p.now c.args.c.now c.round.new.search c.args.start c.round.ensures.search (c.round.ensures.start ∙ c.rounds.invariant.start) (c.round.ensures.closed c.rounds-test.false)

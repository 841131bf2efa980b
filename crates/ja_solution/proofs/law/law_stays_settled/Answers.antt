use Rattle.ja_solution.proofs.Transfer.{stays_settled}
use Rattle.ja_solution.proofs.law.law_stays_settled.Goals as goal

pub returns : goal.returns
returns c x number block from to old new blocks at no_more grow settled = stays_settled x blocks number block at from to no_more old new grow settled

use Rattle.ja_solution.proofs.Settling.{closed_from_settled}
use Rattle.ja_solution.proofs.law.law_settled.Goals as goal

pub returns : goal.returns
returns c x v whole blocks settled = closed_from_settled x v whole blocks settled

use Rattle.ja_kinds.proofs.Moves.{moved_by_one, one_moves}
use Rattle.ja_kinds.proofs.law.law_moves.Goals as goal

pub returns-clause-moved : goal.returns-clause-moved
returns-clause-moved c = moved_by_one

pub returns-clause-fits : goal.returns-clause-fits
returns-clause-fits c = one_moves

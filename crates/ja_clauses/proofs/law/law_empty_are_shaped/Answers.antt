use Rattle.ja_clauses.proofs.Shapes.{empty_shaped}
use Rattle.ja_clauses.proofs.law.law_empty_are_shaped.Goals as goal

pub returns : goal.returns
returns c p f pairs reach = empty_shaped p f pairs reach

use Rattle.ja_solution.proofs.Covered.{settled_from_covered}
use Rattle.ja_solution.proofs.law.law_covered.Goals as goal

pub returns : goal.returns
returns c x block from to covered begun = settled_from_covered x block from to covered begun

use Rattle.ja_join.proofs.Composing.{composed_some, some_composed}
use Rattle.ja_join.proofs.law.law_composed.Goals as goal

pub returns : goal.returns
returns c φ ρ a = (composed_some φ ρ a, some_composed φ ρ a)

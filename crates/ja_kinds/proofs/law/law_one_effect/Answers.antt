use Rattle.ja_kinds.proofs.Effects.{one_effect}
use Rattle.ja_kinds.proofs.law.law_one_effect.Goals as goal

pub returns : goal.returns
returns c = one_effect c.law_one_reading.ensures.field c.law_one_reading.ensures.method

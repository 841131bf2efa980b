use Rattle.ja_operations.proofs.AgreeAll.{operations_agree, operations_end}
use Rattle.ja_operations.proofs.Categorized.{rows_are_about}
use Rattle.ja_operations.proofs.Sound.{operations_sound, returns_agree}
use Rattle.ja_operations.proofs.law.law_operations_agree.Goals as goal

pub returns-clause-agree : goal.returns-clause-agree
returns-clause-agree c = operations_agree c.law_one_effect.ensures c.law_one_reading.ensures.method c.law_moves.ensures.moved c.law_moves.ensures.fits

pub returns-clause-end : goal.returns-clause-end
returns-clause-end c = operations_end

pub returns-clause-returns : goal.returns-clause-returns
returns-clause-returns c = returns_agree c.law_one_effect.ensures

pub returns-clause-sound : goal.returns-clause-sound
returns-clause-sound c = operations_sound

pub returns-clause-about : goal.returns-clause-about
returns-clause-about c = rows_are_about

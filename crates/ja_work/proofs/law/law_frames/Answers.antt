use Rattle.ja_work.proofs.Framing.{whole_fits, fits_whole}
use Rattle.ja_work.proofs.Outside.{thrown_fits, fits_thrown}
use Rattle.ja_work.proofs.law.law_frames.Goals as goal

pub returns-clause-clauses : goal.returns-clause-clauses
returns-clause-clauses c frame clauses a order outside = (whole_fits frame clauses a order outside, fits_whole frame clauses a order outside)

pub returns-clause-thrown : goal.returns-clause-thrown
returns-clause-thrown c frame tests op height a order = (thrown_fits frame tests op height a order, λ all. fits_thrown frame tests op height a order all.0 all.1 all.2)

use Rattle.ja_work.specs.Told.{told}
use Rattle.ja_work.proofs.WholeEnds.{normal_fit, fit_normal, exceptional_fit, fit_exceptional}
use Rattle.ja_work.proofs.OtherEnds.{return_fit, fit_return, throw_fit, fit_throw, caught_fit, fit_caught}
use Rattle.ja_work.proofs.law.law_ends.Goals as goal

pub returns-clause-normal : goal.returns-clause-normal
returns-clause-normal c p f m i instr tests b after found finds are = (normal_fit p (told p f) m i instr tests b after found finds are, fit_normal p (told p f) m i instr tests b after found finds are)

pub returns-clause-exceptional : goal.returns-clause-exceptional
returns-clause-exceptional c p f m i instr tests b after found finds are = (exceptional_fit p (told p f) m i instr tests b after found finds are, fit_exceptional p (told p f) m i instr tests b after found finds are)

pub returns-clause-returns : goal.returns-clause-returns
returns-clause-returns c p f m i n count under answers affected b s after are = (return_fit (told p f) m i n count under affected are b answers s after, fit_return (told p f) m i n count under affected are b answers s after)

pub returns-clause-throws : goal.returns-clause-throws
returns-clause-throws c p f m i n count under affected b s after are = (throw_fit (told p f) m i n count under affected are b s after, fit_throw (told p f) m i n count under affected are b s after)

pub returns-clause-caught : goal.returns-clause-caught
returns-clause-caught c b after = (caught_fit b after, fit_caught b after)

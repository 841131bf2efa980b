use Rattle.ja_work.proofs.Outside.{normal_outside, exceptional_outside, return_outside, throw_outside, caught_outside, value_outside, nothing_outside, leave_outside}
use Rattle.ja_work.proofs.law.law_outside.Goals as goal

pub returns-clause-normal : goal.returns-clause-normal
returns-clause-normal c frame tests op height room = normal_outside frame tests op height room

pub returns-clause-exceptional : goal.returns-clause-exceptional
returns-clause-exceptional c frame way tests op height = exceptional_outside frame way tests op height

pub returns-clause-returns : goal.returns-clause-returns
returns-clause-returns c frame affected under answers s room = return_outside frame affected under answers s room

pub returns-clause-throws : goal.returns-clause-throws
returns-clause-throws c frame affected s = throw_outside frame affected s

pub returns-clause-caught : goal.returns-clause-caught
returns-clause-caught c frame room = caught_outside frame room

pub returns-clause-value : goal.returns-clause-value
returns-clause-value c frame top lt = value_outside frame top lt

pub returns-clause-nothing : goal.returns-clause-nothing
returns-clause-nothing c frame = nothing_outside frame

pub returns-clause-leaves : goal.returns-clause-leaves
returns-clause-leaves c frame = leave_outside frame

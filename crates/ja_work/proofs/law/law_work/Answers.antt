use Rattle.ja_work.specs.Frames.{spot_at, clause_function, clauses_from}
use Rattle.ja_work.specs.Thrown.{ends_thrown}
use Rattle.ja_work.specs.Told.{told}
use Rattle.ja_work.specs.Work.{literal}
use Rattle.ja_work.proofs.Working.{work_aimed, facts_work, literal_work, rest_work, clause_work, piece_work, thrown_work}
use Rattle.ja_work.proofs.law.law_work.Goals as goal

pub returns-clause-facts : goal.returns-clause-facts
returns-clause-facts c p f frames m method frame saying φ is set = work_aimed p (told p f) frames φ (facts_work p (told p f) frames m method frame saying φ is set)

pub returns-clause-literals : goal.returns-clause-literals
returns-clause-literals c p f frames v positive is = work_aimed p (told p f) frames (literal v positive) (literal_work p (told p f) frames v positive is)

pub returns-clause-rules : goal.returns-clause-rules
returns-clause-rules c p f frames m i method frame clauses place count is rule e =
    work_aimed p (told p f) frames (clauses_from frame clauses place count) (rest_work p (told p f) frames m i method frame clauses is rule place count e)

pub returns-clause-clauses : goal.returns-clause-clauses
returns-clause-clauses c p f frames m i method frame clauses place is rule lt =
    work_aimed p (told p f) frames (clause_function frame (clauses (spot_at frame place)) (spot_at frame place)) (clause_work p (told p f) frames m i method frame clauses is rule place lt)

pub returns-clause-pieces : goal.returns-clause-pieces
returns-clause-pieces c p f frames m i method frame clauses place φ is rule lt part =
    work_aimed p (told p f) frames φ (piece_work p (told p f) frames m i method frame clauses is rule place φ lt part)

pub returns-clause-thrown : goal.returns-clause-thrown
returns-clause-thrown c p f frames m i height method frame tests op is at are =
    work_aimed p (told p f) frames (ends_thrown frame tests op height) (thrown_work p (told p f) frames m i height method frame tests op is at are)

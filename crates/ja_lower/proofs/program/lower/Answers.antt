use Rattle.ja_lower.proofs.program.lower.Goals as goal

pub returns-clause-only : goal.returns-clause-only
returns-clause-only g c = c.lower_in_pieces.ensures.only

pub returns-clause-first : goal.returns-clause-first
returns-clause-first g c = c.lower_in_pieces.ensures.first

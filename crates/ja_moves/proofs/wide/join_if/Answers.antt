use Rattle.ja_moves.proofs.wide.join_if.Goals as goal

pub returns-then-has-clause-shape : goal.returns-then-has-clause-shape
returns-then-has-clause-shape c = c.join_row.ensures.shape c.args.count c.args.count c.requires.whole

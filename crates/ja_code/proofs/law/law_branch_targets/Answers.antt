use Rattle.ja_code.proofs.Targets.{far_is, near_is}
use Rattle.ja_code.proofs.law.law_branch_targets.Goals as goal

pub returns-clause-two_bytes : goal.returns-clause-two_bytes
returns-clause-two_bytes c = near_is

pub returns-clause-four_bytes : goal.returns-clause-four_bytes
returns-clause-four_bytes c = far_is

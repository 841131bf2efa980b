use Rattle.ja_steps.proofs.Setting.{step_looks, step_low, part_set, parts_aimed}
use Rattle.ja_steps.proofs.law.law_sets.Goals as goal

pub returns-clause-parts : goal.returns-clause-parts
returns-clause-parts c p f m method frame clauses rule first second φ χ ψ of lead set is looks below = part_set p f m method frame clauses rule first second φ χ of lead set is ψ looks below

pub returns-clause-whole : goal.returns-clause-whole
returns-clause-whole c rule φ χ is = (step_looks rule φ χ is, step_low rule φ χ is)

pub returns-clause-aimed : goal.returns-clause-aimed
returns-clause-aimed c p f frames m method frame saying clauses rule first φ χ method_is of lead set is = parts_aimed p f frames m method frame saying clauses rule first φ χ method_is of lead set is

use Rattle.ja_steps.proofs.Setting.{step_led}
use Rattle.ja_steps.proofs.law.law_rules.Goals as goal

pub returns : goal.returns
returns c frame clauses rule φ ψ of = step_led frame clauses rule φ ψ of

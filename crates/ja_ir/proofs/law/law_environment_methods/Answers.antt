use Rattle.ja_ir.proofs.Entered.{constructor-says}
use Rattle.ja_ir.proofs.law.law_environment_methods.Goals as goal

pub returns : goal.returns
returns c = λ p c m. constructor-says p c m

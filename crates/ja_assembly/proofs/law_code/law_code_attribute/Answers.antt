use Rattle.ja_assembly.proofs.Codes.{is_attribute, says_attribute}
use Rattle.ja_assembly.proofs.law_code.law_code_attribute.Goals as goal

pub returns : goal.returns
returns c = record { attribute = is_attribute; says = says_attribute }

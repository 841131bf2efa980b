use Rattle.ja_generator.proofs.Writable.{made-writable}
use Rattle.ja_generator.proofs.law.law_writable.Goals as goal

pub returns : goal.returns
returns c = made-writable

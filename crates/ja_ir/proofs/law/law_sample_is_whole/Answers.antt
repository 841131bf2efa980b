use Rattle.ja_ir.proofs.Sampled.{sample-whole}
use Rattle.ja_ir.proofs.law.law_sample_is_whole.Goals as goal

pub returns : goal.returns
returns c = sample-whole

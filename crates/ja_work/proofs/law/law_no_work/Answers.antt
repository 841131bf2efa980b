use Rattle.ja_work.specs.Told.{told}
use Rattle.ja_work.proofs.Empty.{only_leaves}
use Rattle.ja_work.proofs.law.law_no_work.Goals as goal

pub returns : goal.returns
returns c p f frames t none is = only_leaves p (told p f) frames none t is

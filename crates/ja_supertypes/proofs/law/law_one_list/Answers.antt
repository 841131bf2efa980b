use Rattle.ja_supertypes.proofs.Nearest.{nearest-one}
use Rattle.ja_supertypes.proofs.OneAnswer.{types-one}
use Rattle.ja_supertypes.proofs.law.law_one_list.Goals as goal

pub returns : goal.returns
returns c = record { nearest = nearest-one; types = types-one }

use Rattle.ja_sets.proofs.Members.{no-pair, HasPair-with_pair, HasPair-union_pairs}
use Rattle.ja_sets.proofs.law.law_pairs.Goals as goal

pub returns : goal.returns
returns c = record { empty = no-pair; added = HasPair-with_pair; joined = HasPair-union_pairs }

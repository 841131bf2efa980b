use Rattle.ja_sets.proofs.Members.{no-member, Has-set, Has-union_iff}
use Rattle.ja_sets.proofs.law.law_sets.Goals as goal

pub returns : goal.returns
returns c = record { empty = no-member; added = Has-set; joined = Has-union_iff }

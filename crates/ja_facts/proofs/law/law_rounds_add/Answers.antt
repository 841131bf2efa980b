use Rattle.std.proofs.Common.{suc, arith}
use Rattle.ja_facts.specs.ClassSets.{Rule as ClassRule}
use Rattle.ja_facts.proofs.LeastLaws.{Iterate-later}
use Rattle.ja_facts.proofs.law.law_rounds_add.Goals as goal

pub returns : goal.returns
returns c p n f x = Iterate-later (ClassRule p) (suc n) n (omega arith) f x

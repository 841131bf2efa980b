use Rattle.ja_plain.proofs.ReachTest.{reaches-is, tainted-is}
use Rattle.ja_plain.proofs.law.law_taint_tests.Goals as goal

pub returns : goal.returns
returns c = record { reaches = λ links heap a b. reaches-is links heap a b; tainted = λ heap v. tainted-is heap v }

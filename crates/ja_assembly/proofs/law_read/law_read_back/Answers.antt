use Rattle.ja_assembly.proofs.ReadBacks.{read_back}
use Rattle.ja_assembly.proofs.law_read.law_read_back.Goals as goal

pub returns-clause-class : goal.returns-clause-class
returns-clause-class c = λ class bytes w. (w.class, record { file = w.file; says = w.says; whole = w.whole })

pub returns-clause-listed : goal.returns-clause-listed
returns-clause-listed c = read_back c.law_method_attributes.ensures.one_meaning c.law_spelled_or_refused.ensures.one_class

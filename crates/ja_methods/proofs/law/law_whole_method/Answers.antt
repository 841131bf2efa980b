use Rattle.ja_methods.proofs.Whole.{whole, rows-about}
use Rattle.ja_methods.proofs.law.law_whole_method.Goals as goal

pub returns-clause-whole : goal.returns-clause-whole
returns-clause-whole c = λ heads table class spelled cl m method is.
    whole c.law_operations_agree.ensures.agree c.law_operations_agree.ensures.end c.law_operations_agree.ensures.returns c.law_operations_agree.ensures.sound c.law_one_reading.ensures.method
    heads table class spelled cl m method is

pub returns-clause-about : goal.returns-clause-about
returns-clause-about c = λ heads table categorized class spelled cl m method is. rows-about c.law_operations_agree.ensures.about heads table categorized class spelled cl m method is

use Rattle.ja_class.proofs.MethodLaws.{form_is_one}
use Rattle.ja_class.proofs.first.reader.first_form_is_one.Goals as goal

pub returns : goal.returns
returns c = form_is_one

use Rattle.ja_assembly.proofs.RightClasses.{right_class}
use Rattle.ja_assembly.proofs.law_items.law_right_items.Goals as goal

pub returns : goal.returns
returns c = right_class

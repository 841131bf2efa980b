use Rattle.std.proofs.Common.{◌<◌, List, [], refl, sym, subst, arith}
use Rattle.ja_class.specs.Meaning.{ClassSpelled}
use Rattle.ja_lower.specs.Accept.{AreClassesOf}
use Rattle.ja_reading.proofs.Classes.{no_classes}
use Rattle.ja_reading.proofs.Lengths.{none_over}
use Rattle.ja_reading.proofs.judging.nothing_read.Goals as goal

pub returns : goal.returns
returns c = record {
  total = refl;
  short = none_over;
  table = λ file is. let below : is.held.0 < 0 = is.held.1 in absurd (omega arith);
  classes = (c.new.ensures, subst (λ (l : List ClassSpelled). AreClassesOf [] l) (sym c.new-2.ensures.items) no_classes);
}

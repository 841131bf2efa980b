use Rattle.std.proofs.Common.{[], refl}
use Rattle.ja_bytes.proofs.FieldText.{field_unique}
use Rattle.ja_bytes.proofs.MethodText.{method_unique}
use Rattle.ja_bytes.proofs.law.law_one_reading.Goals as goal

pub returns : goal.returns
returns c = record {
  field = λ text type other p q. (field_unique text text [] [] type other p q refl).2;
  method = λ text params others result other p q. method_unique text params others result other p q;
}

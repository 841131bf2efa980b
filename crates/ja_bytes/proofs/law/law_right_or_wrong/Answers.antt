use Rattle.ja_bytes.proofs.Exact.{text_or_wrong, field_or_wrong, method_or_wrong}
use Rattle.ja_bytes.proofs.law.law_right_or_wrong.Goals as goal

pub returns : goal.returns
returns c = record { text = text_or_wrong; field = field_or_wrong; method = method_or_wrong }

use Rattle.ja_order.proofs.Renamed.{renaming_rises}
use Rattle.ja_order.proofs.law.law_calls_keep_order.Goals as goal

pub returns : goal.returns
returns c = λ callee caller within around base entered ended before after x y u v frame inner outer fits e4 d4 copies m n less. renaming_rises callee caller within around base entered ended before after frame inner outer fits e4 d4 copies x y u v m n less

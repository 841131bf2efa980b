use Rattle.std.proofs.lemmas.Result.{IfOk-weaker}
use Rattle.ja_order.proofs.Kept.{frame_order}
use Rattle.ja_order.proofs.make.order_of.Goals as goal

pub returns : goal.returns
returns c = IfOk-weaker c.frame_order.result _ _ (λ order is. frame_order c.args.method.now c.of.result order c.of.ensures.frame is) c.frame_order.ensures

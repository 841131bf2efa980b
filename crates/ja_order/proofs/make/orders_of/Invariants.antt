use Rattle.std.proofs.Common.{take}
use Rattle.std.specs.List.{AllZip}
use Rattle.ja_order.specs.Order.{HasOrder}
use Rattle.ja_order.proofs.make.orders_of.Given as goal

abbrev pub invariant-loop-method : goal.invariant-loop-method
invariant-loop-method l = AllZip HasOrder (take l.method-index l.method-items) l.orders

-- What the threads that lower methods share, and what they hand back, may cross threads.
use denote.Param.Send.{IsSend, IsSync, sendable}
use Rattle.std.proofs.Crossing.{crosses}
use Rattle.std.proofs.MapsCrossing.{crosses as maps}
use Rattle.ja_ir.specs.contracts.method.Handler as Handler
use Rattle.ja_ir.specs.contracts.method.Instr as Instr
use Rattle.ja_ir.specs.contracts.method.Method as Method
use Rattle.ja_ir.specs.contracts.op.CallOp as CallOp
use Rattle.ja_ir.specs.contracts.op.Op as Op
use Rattle.ja_class.specs.contracts.class.Class as Class
use Rattle.ja_hier.specs.contracts.hier.Hier as Hier
use Rattle.ja_lib.specs.contracts.table.Table as Table
use Rattle.ja_methods.specs.contracts.method.Lowered as Lowered
use Rattle.ja_methods.specs.contracts.site.MethodSite as MethodSite
use Rattle.ja_lower.specs.contracts.answer.Answer as Answer

-- ---- what is shared

pub hier-sync : IsSync Hier.the_field.row
hier-sync = search (sendable, crosses, maps) depth 60 fits 20000

pub class-sync : IsSync Class.the_field.row
class-sync = search (sendable, crosses, maps) depth 60 fits 20000

pub table-sync : IsSync Table.the_field.row
table-sync = search (sendable, crosses, maps) depth 60 fits 20000

-- ---- what is handed back, part by part, since one search does not reach so far

call-send : IsSend CallOp.the_field.row
call-send = search (sendable, crosses) depth 60 fits 20000

op-send : IsSend Op.the_field.row
op-send = search (call-send, sendable, crosses) depth 60 fits 20000

instr-send : IsSend Instr.the_field.row
instr-send = search (op-send, sendable, crosses) depth 60 fits 20000

handler-send : IsSend Handler.the_field.row
handler-send = search (sendable, crosses) depth 60 fits 20000

method-send : IsSend Method.the_field.row
method-send = search (instr-send, handler-send, sendable, crosses) depth 60 fits 20000

site-send : IsSend MethodSite.the_field.row
site-send = search (sendable, crosses) depth 60 fits 20000

lowered-send : IsSend Lowered.the_field.row
lowered-send = search (method-send, site-send, sendable, crosses) depth 60 fits 20000

pub answer-send : IsSend Answer.the_field.row
answer-send = search (lowered-send, sendable, crosses) depth 60 fits 20000

use Rattle.std.proofs.Common.{arith}
use Rattle.ja_class.specs.InnerViews.{entries}
use Rattle.ja_class.proofs.CodeLaws.{given_shorter}
use Rattle.ja_class.proofs.first.code.step_of.Goals as goal

pub returns-clause-shorter : goal.returns-clause-shorter
returns-clause-shorter c =
    given_shorter (λ x. (x.0, x.1.now)) c.operation.result (entries c.args.pool.now) c.args.code.now c.in_ok-opcode.opcode c.in_ok-opcode.rest.now
    (λ i. omega (arith, c.type_inv.code i)) c.in_ok-opcode.ensures c.operation.ensures

use Rattle.std.proofs.Common.{arith}
use Rattle.ja_class.proofs.MethodLaws.{found, only, unbuilt}
use Rattle.ja_class.proofs.first.reader.read_first.Goals as goal

pub returns-clause-found : goal.returns-clause-found
returns-clause-found c = found c.args.bytes.now c.method_from_bytes.result (λ i. omega (arith, c.type_inv.bytes i)) c.method_from_bytes.ensures

pub returns-clause-only : goal.returns-clause-only
returns-clause-only c = only c.args.bytes.now c.method_from_bytes.result c.method_from_bytes.ensures

pub returns-clause-unbuilt : goal.returns-clause-unbuilt
returns-clause-unbuilt c = unbuilt c.args.bytes.now c.method_from_bytes.result c.method_from_bytes.ensures

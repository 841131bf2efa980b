use Rattle.std.proofs.Common.{arith}
use Rattle.ja_attributes.specs.InnerSteps.{seen, head}
use Rattle.ja_attributes.proofs.Heads.{start_reads}
use Rattle.ja_attributes.proofs.attribute.next_attribute.Goals as goal

pub attribute_in-requires : goal.attribute_in-requires
attribute_in-requires c = λ some. absurd (omega (arith, some))

pub returns-clause-reads : goal.returns-clause-reads
returns-clause-reads c = start_reads seen (head c.args.pool.now) c.args.c.now c.attribute_in.new.c c.attribute_in.result c.attribute_in.ensures.reads

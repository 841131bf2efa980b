use Rattle.ja_assembly.specs.InnerLabels.{places}
use Rattle.ja_assembly.specs.Members.{instructions_in}
use Rattle.ja_maker.specs.InnerWriting.{pool_in}
use Rattle.ja_maker.proofs.Constructors.{constructor_is}
use Rattle.ja_maker.proofs.constructor_bytes.constructor_code.Goals as goal

pub returns : goal.returns
returns c = λ above.
    constructor_is (pool_in c.args.pool.now) (places c.args.labels.now) c.args.superclass.now c.in_ok-constructor_of.field-0 (instructions_in above c.args.behind.now)
    c.new-code.result c.put_instruction.new.out c.put_instruction-2.new.out c.put_instruction-3.new.out c.put_instructions.new.out c.new-code.ensures
    c.in_ok-put_instruction.ensures c.in_ok-put_instruction-2.ensures c.in_ok-put_instruction-3.ensures (c.in_ok-put_instructions.ensures above) c.in_ok-constructor_of.ensures

use Rattle.ja_attributes.specs.Attribute.{attributes_bytes}
use Rattle.ja_assembly.specs.Members.{instructions_in, ranges_in}
use Rattle.ja_assembly.specs.Assembled.{u2, text_index, attributes_of}
use Rattle.ja_maker.specs.InnerWriting.{pool_in}
use Rattle.ja_maker.proofs.Chains.{front_then}
use Rattle.ja_maker.proofs.class_bytes.put_method.Goals as goal

pub returns : goal.returns
returns c = λ superclass.
    let pool = pool_in c.args.pool.now in
    let front = rw (c.bytes.ensures, c.bytes-2.ensures) at c.in_ok-put_front.ensures in
    front_then c.args.out.now (u2 c.args.flags.size) (u2 (text_index pool c.args.name.now)) (u2 (text_index pool c.args.desc.now))
    (attributes_bytes (attributes_of pool (instructions_in superclass c.args.behind.now) (ranges_in superclass c.args.behind.now) c.args.frame.now))
    c.put_front.new.out c.put_attributes.new.out front (c.in_ok-put_attributes.ensures superclass)

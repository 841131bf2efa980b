use Rattle.ja_assembly.specs.Members.{instructions_in, ranges_in}
use Rattle.ja_maker.specs.InnerWriting.{pool_in}
use Rattle.ja_maker.proofs.Chains.{attributes_are}
use Rattle.ja_maker.proofs.class_bytes.put_attributes.Goals as goal

pub returns-in_ok-put_code-in-Some : goal.returns-in_ok-put_code-in-Some
returns-in_ok-put_code-in-Some c = λ superclass.
    attributes_are (pool_in c.args.pool.now) (instructions_in superclass c.args.behind.now) (ranges_in superclass c.args.behind.now) c.args.frame.now c.in-Some.frame
    c.in_ok-content-in-Some.content c.args.out.now c.put_code.new.out c.in-Some.is (c.in_ok-content-in-Some.ensures superclass) c.in_ok-put_code-in-Some.ensures

use Rattle.ja_assembly.specs.InnerLabels.{places}
use Rattle.ja_assembly.specs.Members.{instructions_in, ranges_in}
use Rattle.ja_maker.specs.InnerWriting.{pool_in}
use Rattle.ja_maker.proofs.Chains.{content_is}
use Rattle.ja_maker.proofs.class_bytes.method_content.Goals as goal

pub returns : goal.returns
returns c = λ superclass.
    let code = rw c.new-code.ensures at (c.in_ok-put_instructions.ensures superclass) in
    content_is (pool_in c.args.pool.now) (places c.in_ok-labels.labels) (instructions_in superclass c.args.behind.now) (ranges_in superclass c.args.behind.now) c.args.frame
    c.put_instructions.new.out c.in_ok-content.content (c.in_ok-labels.ensures superclass) code (c.in_ok-content.ensures superclass)

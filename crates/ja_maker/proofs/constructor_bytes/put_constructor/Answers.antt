use Rattle.ja_maker.specs.InnerWriting.{pool_in}
use Rattle.ja_maker.proofs.Constructors.{constructor_whole}
use Rattle.ja_maker.proofs.constructor_bytes.put_constructor.Goals as goal

pub returns : goal.returns
returns c = λ above.
    constructor_whole (pool_in c.args.pool.now) c.args.superclass.now above c.args.behind.now c.in_ok-content.content c.args.out.now c.put_front.new.out c.put_code.new.out
    (c.in_ok-content.ensures above) c.in_ok-put_front.ensures c.in_ok-put_code.ensures

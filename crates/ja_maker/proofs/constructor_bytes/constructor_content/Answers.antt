use Rattle.std.proofs.Common.{◌++◌, ◌∙◌}
use Rattle.ja_assembly.specs.InnerLabels.{places}
use Rattle.ja_assembly.specs.Members.{instructions_in, ranges_in}
use Rattle.ja_maker.specs.InnerWriting.{pool_in}
use Rattle.ja_maker.specs.InnerConstructor.{initializer_code, initializer_frame}
use Rattle.ja_maker.proofs.Chains.{content_is}
use Rattle.ja_maker.proofs.Constructors.{constructor_labels}
use Rattle.ja_maker.proofs.constructor_bytes.constructor_content.Goals as goal

pub returns : goal.returns
returns c = λ above.
    let is = instructions_in above c.args.behind.now in
    content_is (pool_in c.args.pool.now) (places c.in_ok-labels.labels) (initializer_code c.args.superclass.now ++ is) (ranges_in above c.args.behind.now) initializer_frame
    c.in_ok-code.code c.in_ok-content.content (λ name. c.in_ok-labels.ensures above name ∙ constructor_labels c.args.superclass.now is name)
    (c.in_ok-code.ensures above) (c.in_ok-content.ensures above)

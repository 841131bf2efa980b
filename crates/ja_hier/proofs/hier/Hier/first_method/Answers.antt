use Rattle.std.proofs.Common.{List, take, ap, ◌∙◌}
use Rattle.std.specs.Prelude.{sum_by}
use Rattle.ja_ir.specs.declared.head.ClassHead.{ClassHead}
use Rattle.ja_hier.specs.declared.starts.Member.TheVariants.{Method}
use Rattle.ja_hier.specs.Members.{count_of}
use Rattle.ja_hier.proofs.hier.Hier.first_method.Goals as goal

pub returns : goal.returns
returns c = c.first_of.ensures ∙ ap (λ (heads : List ClassHead). sum_by (count_of Method) (take c.args.c.0 heads)) c.self.view_is

use Rattle.std.proofs.Common.{ap, length, sym, ◌∙◌}
use Rattle.ja_facts.proofs.Counting.{with_receiver, without_receiver}
use Rattle.ja_facts.proofs.params.param_count.Goals as goal

pub returns-then-is_static : goal.returns-then-is_static
returns-then-is_static c =
    without_receiver c.args.method.now.flags (length c.as_slice.result.now) c.args.method.now.types.params (sym c.is_static.ensures ∙ c.if-is_static.true)
    (ap (λ types. length types) c.as_slice.ensures)

pub returns-else-is_static : goal.returns-else-is_static
returns-else-is_static c =
    with_receiver c.args.method.now.flags (length c.as_slice.result.now) c.args.method.now.types.params (sym c.is_static.ensures ∙ c.if-is_static.false)
    (ap (λ types. length types) c.as_slice.ensures)

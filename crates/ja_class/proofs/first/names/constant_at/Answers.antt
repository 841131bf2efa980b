use Rattle.std.proofs.Common.{◌-◌, option_map, ap, ◌∙◌}
use Rattle.ja_class.specs.InnerViews.{entry_view}
use Rattle.ja_class.proofs.Steps.{copied_is, entry_of}
use Rattle.ja_class.proofs.first.names.constant_at.Goals as goal

pub returns : goal.returns
returns c =
    let pool = c.args.pool.now in
    ap (option_map entry_view) (c.copied.ensures ∙ copied_is pool (c.args.index - 1) c.get.result c.get.ensures.lookup.0 c.get.ensures.lookup.1) ∙ entry_of pool c.args.index c.if-index-eq0.false

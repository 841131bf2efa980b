use Rattle.std.proofs.Common.{List, Bool, ap, ◌∙◌}
use Rattle.ja_sets.specs.Sets.{union}
use Rattle.ja_supertypes.proofs.Ways.{copied}
use Rattle.ja_supertypes.proofs.closure.copy_row.Goals as goal

pub returns : goal.returns
returns c =
    c.join.ensures.joined ∙ ap (λ (set : List Bool). union set c.args.row.now) c.in_ok-copy.ensures ∙ copied c.args.len c.args.row.now c.requires

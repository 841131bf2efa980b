use Rattle.std.proofs.Common.{List, Bool, ap, ◌∙◌}
use Rattle.ja_sets.specs.Sets.{union}
use Rattle.ja_network.proofs.Gaining.{copy-same, copy-size}
use Rattle.ja_network.proofs.sets.copied.Goals as goal

pub returns-clause-same : goal.returns-clause-same
returns-clause-same c = copy-same c.args.n c.args.set.now c.join.new.self c.requires (c.join.ensures.joined ∙ ap (λ (s : List Bool). union s c.args.set.now) c.in_ok-copy.ensures)

pub returns-clause-size : goal.returns-clause-size
returns-clause-size c = copy-size c.args.n c.args.set.now c.join.new.self c.requires (c.join.ensures.joined ∙ ap (λ (s : List Bool). union s c.args.set.now) c.in_ok-copy.ensures)

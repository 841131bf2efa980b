use Rattle.std.proofs.Common.{◌≡◌, ℕ, List, sym, ap, ◌∙◌}
use Rattle.std.specs.Prelude.{is_some}
use Rattle.ja_hier.specs.InnerIndex.{first_place, is_hidden}
use Rattle.ja_hier.proofs.ByPlace.{hidden-there, hidden-found}
use Rattle.ja_hier.proofs.crossing.declares_hidden.Goals as goal

pub returns : goal.returns
returns c =
    let is = c.has_hidden.ensures ∙ ap (λ (places : List ℕ). is_some (first_place (is_hidden c.args.method.now.desc) c.args.methods.now places)) (c.at.ensures ∙ c.requires c.args.method.now.name) in (
      λ t. hidden-there c.args.method.now c.args.methods.now (sym is ∙ t),
      λ among. is ∙ hidden-found c.args.method.now c.args.methods.now among,
    )

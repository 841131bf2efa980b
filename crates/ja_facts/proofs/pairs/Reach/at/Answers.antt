use Rattle.std.proofs.Common.{List, Bool, Some, [], length, sym, ap, subst, ◌∙◌, ◌<◌}
use Rattle.std.specs.Prelude.{slice_get, slice_index_or}
use Rattle.ja_facts.proofs.Shared.{named-row}
use Rattle.ja_facts.proofs.pairs.Reach.at.Goals as goal

pub returns : goal.returns
returns c =
    ap (λ (table : List (List (List (List Bool)))). slice_get (slice_index_or table c.args.m.0 []) c.args.i) (sym c.self.view_is)
    ∙ named-row c.self.inside.pool c.self.inside.none c.self.inside.names c.args.m.0 c.args.i (subst (λ (table : List (List (List (List Bool)))). c.args.i < length (slice_index_or table c.args.m.0 [])) (sym c.self.view_is) c.requires)
    ∙ ap Some (sym (c.at_or.ensures ∙ ap (λ name. slice_index_or c.self.inside.pool name c.self.inside.none) c.listed_in-name.ensures))

use Rattle.std.proofs.Common.{◌<◌, List, ℕ, ◌++◌, length, ap, ◌∙◌, arith}
use Rattle.std.specs.Prelude.{option_to_list}
use Rattle.ja_supertypes.specs.Supertypes.{place_of}
use Rattle.ja_supertypes.proofs.ListSteps.{filter_map-more}
use Rattle.ja_supertypes.proofs.direct.places_of.Goals as goal

pub loop-name-preserved : goal.loop-name-preserved
loop-name-preserved c =
    let lt : c.loop-name.name-index < length c.args.listed.now = omega arith in
    c.in_ok-push_some.ensures
    ∙ ap (λ (l : List ℕ). l ++ option_to_list c.place_of.result) c.loop-name.invariant
    ∙ filter_map-more (place_of c.args.names.now.keys) c.args.listed.now c.loop-name.name-index c.name-item.result c.place_of.result lt c.name-item.is c.place_of.ensures

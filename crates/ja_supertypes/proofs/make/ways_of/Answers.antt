use Rattle.std.proofs.Common.{List, ℕ, Bool, ◌++◌, map, sym, ap, ◌∙◌, subst}
use Rattle.std.specs.Prelude.{filter_map, option_to_list}
use Rattle.ja_ir.specs.declared.head.ClassHead.{ClassHead}
use Rattle.ja_supertypes.specs.InnerRows.{ShowsAll}
use Rattle.ja_supertypes.specs.Supertypes.{place_of, place_of_some}
use Rattle.ja_supertypes.proofs.Places.{names-few}
use Rattle.ja_supertypes.proofs.make.ways_of.Goals as goal

pub superclass_places-requires : goal.superclass_places-requires
superclass_places-requires c = names-few c.args.heads.now c.args.names.now.keys c.requires.names c.requires.few

pub supertype_places-requires : goal.supertype_places-requires
supertype_places-requires c = names-few c.args.heads.now c.args.names.now.keys c.requires.names c.requires.few

pub all_supertypes-requires-clause-direct : goal.all_supertypes-requires-clause-direct
all_supertypes-requires-clause-direct c =
    c.as_slice.ensures ∙ c.in_ok-direct.ensures
    ∙ ap (λ (keys : List (List ℕ)). map (λ (head : ClassHead). filter_map (place_of keys) head.interfaces ++ option_to_list (place_of_some keys head.superclass)) c.args.heads.now) c.requires.names

pub check_cycles-requires-clause-above : goal.check_cycles-requires-clause-above
check_cycles-requires-clause-above c = subst (λ (rows : List (List Bool)). ShowsAll c.args.heads.now rows) (sym c.as_slice-2.ensures.value) c.in_ok-above.ensures

pub returns-clause-superclasses : goal.returns-clause-superclasses
returns-clause-superclasses c =
    c.in_ok-superclasses.ensures ∙ ap (λ (keys : List (List ℕ)). map (λ (head : ClassHead). place_of_some keys head.superclass) c.args.heads.now) c.requires.names

pub returns-clause-direct : goal.returns-clause-direct
returns-clause-direct c =
    c.in_ok-direct.ensures
    ∙ ap (λ (keys : List (List ℕ)). map (λ (head : ClassHead). filter_map (place_of keys) head.interfaces ++ option_to_list (place_of_some keys head.superclass)) c.args.heads.now) c.requires.names

pub returns-clause-above : goal.returns-clause-above
returns-clause-above c = c.in_ok-above.ensures

pub returns-clause-acyclic : goal.returns-clause-acyclic
returns-clause-acyclic c = c.in_ok-check_cycles.ensures.ok

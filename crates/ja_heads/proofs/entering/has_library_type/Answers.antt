use Rattle.std.proofs.Common.{ℕ, List, sym, ◌∙◌, subst}
use Rattle.std.specs.Prelude.{Decides, Contains, bytes_eq}
use Rattle.std.proofs.lemmas.Slice.Eq.{bytes_eq-Decides}
use Rattle.std.proofs.lemmas.List.Elements.{contains_decides, Decides-contains}
use Rattle.ja_supertypes.proofs.OneAnswer.{types-one}
use Rattle.ja_heads.proofs.entering.has_library_type.Goals as goal

pub returns : goal.returns
returns c =
    let listed : Decides c.contains.result (Contains c.as_slice.result.now c.args.name.now) =
    Decides-contains c.as_slice.result.now c.args.name.now c.contains.result (contains_decides bytes_eq bytes_eq-Decides c.as_slice.result.now c.args.name.now c.contains.result c.contains.ensures.cases) in (
      λ t. record {
        names = c.library_types.result.now;
        types = c.library_types.ensures;
        listed = subst (λ (l : List (List ℕ)). Contains l c.args.name.now) c.as_slice.ensures (listed.0 t);
      },
      λ has. listed.1 (subst (λ (l : List (List ℕ)). Contains l c.args.name.now) (types-one c.args.hier.now c.args.class.0 has.names c.library_types.result.now has.types c.library_types.ensures ∙ sym c.as_slice.ensures) has.listed),
    )

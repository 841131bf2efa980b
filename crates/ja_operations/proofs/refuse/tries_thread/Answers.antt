use Rattle.std.proofs.Common.{◌≡◌, List, ℕ, sym, subst, ◌∙◌}
use Rattle.std.specs.Prelude.{Decides, Contains, bytes_eq, codes}
use Rattle.std.proofs.lemmas.Slice.Eq.{bytes_eq-Decides}
use Rattle.std.proofs.lemmas.List.Elements.{contains_decides, Decides-contains}
use Rattle.ja_operations.proofs.Above.{tries_listed, listed_tries, tries_itself, itself_tries}
use Rattle.ja_operations.proofs.refuse.tries_thread.Goals as goal

pub returns-in-Some : goal.returns-in-Some
returns-in-Some c =
    let names = c.as_slice.result.now in
    let listed : Decides c.contains.result (Contains names c.args.thread.now) =
    Decides-contains names c.args.thread.now c.contains.result (contains_decides bytes_eq bytes_eq-Decides names c.args.thread.now c.contains.result c.contains.ensures.cases) in
    let types : names ≡ c.library_types.result.now = c.as_slice.ensures in
    let along : Contains names c.args.thread.now → Contains c.library_types.result.now (codes "java/lang/Thread") =
    λ h. subst (λ (x : List ℕ). Contains c.library_types.result.now x) c.requires (subst (λ (l : List (List ℕ)). Contains l c.args.thread.now) types h) in
    let back : Contains c.library_types.result.now (codes "java/lang/Thread") → Contains names c.args.thread.now =
    λ h. subst (λ (x : List ℕ). Contains names x) (sym c.requires) (subst (λ (l : List (List ℕ)). Contains l (codes "java/lang/Thread")) (sym types) h) in (
      λ t. tries_listed c.args.hier.now c.args.class.now c.in-Some.class.0 c.library_types.result.now c.in-Some.ensures.some c.library_types.ensures (along (listed.0 t)),
      λ tries. listed.1 (back (listed_tries c.args.hier.now (c.law_one_list.ensures.types c.args.hier.now) c.args.class.now c.in-Some.class.0 c.library_types.result.now c.in-Some.ensures.some c.library_types.ensures tries)),
    )

pub returns-in-None : goal.returns-in-None
returns-in-None c = (
  λ t.
      let same : c.args.class.now ≡ c.args.thread.now = (bytes_eq-Decides c.args.class.now c.args.thread.now).0 (sym c.eq.ensures ∙ t) in
      tries_itself c.args.hier.now c.args.class.now c.in-None.ensures.none (same ∙ c.requires),
  λ tries.
      let same : c.args.class.now ≡ codes "java/lang/Thread" =
      itself_tries c.args.hier.now (c.law_one_list.ensures.types c.args.hier.now) c.args.class.now c.in-None.ensures.none tries in
      c.eq.ensures ∙ (bytes_eq-Decides c.args.class.now c.args.thread.now).1 (same ∙ sym c.requires),
)

-- What rows that were joined have.
use Rattle.std.proofs.Common.{◌≡◌, ℕ, ◌<◌, ◌⊎◌, ◌↔◌, Bool, List, [], length, get_or, set, ap, sym, subst, ◌∙◌, inl, inr}
use Rattle.std.proofs.lemmas.List.{get_or-set_same, get_or-set_other}
use Rattle.std.proofs.Math.ListN.{length-set}
use Rattle.std.proofs.lemmas.Bool.{cases_eq}
use Rattle.ja_sets.specs.Sets.{Has}
use Rattle.ja_matrix.specs.Matrices.{KeepsShape, Gains}

-- a table in which one row gained what Q says
pub row-gains : (old : List (List Bool)) (to : ℕ) (new : List Bool) (Q : ℕ → Type 0) → to < length old → ((b : ℕ) → Has new b ↔ (Has (get_or old to []) b ⊎ Q b)) → Gains old (set old to new) (λ a b. (a ≡ to) × Q b)
row-gains old to new Q lt each a b =
    let same : get_or (set old to new) to [] ≡ new = get_or-set_same old to new [] lt in
    elim (cases_eq a to) [
      | inl e ↦
          let here : get_or (set old to new) a [] ≡ new = ap (λ k. get_or (set old to new) k []) e ∙ same in
          let was : get_or old to [] ≡ get_or old a [] = ap (λ k. get_or old k []) (sym e) in (
            λ has. elim ((each b).0 (subst (λ (r : List Bool). Has r b) here has)) [
              | inl before ↦ inl (subst (λ (r : List Bool). Has r b) was before)
              | inr q ↦ inr (e, q)
            ],
            λ either. subst (λ (r : List Bool). Has r b) (sym here)
                ((each b).1 (elim either [ inl before ↦ inl (subst (λ (r : List Bool). Has r b) (sym was) before) | inr q ↦ inr q.1 ])),
          )
      | inr ne ↦
          let other : get_or (set old to new) a [] ≡ get_or old a [] = get_or-set_other old to a new [] ne in (
            λ has. inl (subst (λ (r : List Bool). Has r b) other has),
            λ either. elim either [ inl before ↦ subst (λ (r : List Bool). Has r b) (sym other) before | inr q ↦ absurd (ne q.0) ],
          )
    ]

pub row-keeps : (old : List (List Bool)) (to : ℕ) (new : List Bool) → to < length old → length new ≡ length (get_or old to []) → KeepsShape old (set old to new)
row-keeps old to new lt long rows columns is = record {
  count = length-set old to new ∙ is.count;
  each = λ a h. elim (cases_eq a to) [
    | inl e ↦ ap (λ k. length (get_or (set old to new) k [])) e ∙ ap length (get_or-set_same old to new [] lt) ∙ long ∙ is.each to (subst (λ n. to < n) is.count lt)
    | inr ne ↦ ap length (get_or-set_other old to a new [] ne) ∙ is.each a h
  ];
}

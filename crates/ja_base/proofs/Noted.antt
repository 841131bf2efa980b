-- A name is noted.
use Rattle.std.proofs.Common.{◌≡◌, ℕ, true, false, cond, List, [], ◌∷◌, ◌++◌, Option, Some, None, unwrap_or, bytes_eq, is_eq, nat_cmp, sym, ap, ◌∙◌, inl, inr, append-nil}
use Rattle.std.specs.Cmp.Lexicographic.{slice_cmp}
use Rattle.std.proofs.lemmas.Bool.{cases_Bool}
use Rattle.std.proofs.lemmas.Slice.Eq.{bytes_eq-Decides}
use Rattle.std.proofs.lemmas.Map.Text.{is_eq-slice_cmp}
use Rattle.ja_base.specs.Index.{number_if}

-- a name is noted: its numbers are taken out, and put back with one more
pub noted-one : (before without after : List ℕ → Option (List ℕ)) (noted name numbers : List ℕ) (number : ℕ)
    → ((q : List ℕ) → without q ≡ cond (is_eq (slice_cmp nat_cmp noted q)) None (before q))
    → ((q : List ℕ) → after q ≡ cond (is_eq (slice_cmp nat_cmp noted q)) (Some numbers) (without q))
    → numbers ≡ unwrap_or (before noted) [] ++ number ∷ []
    → unwrap_or (after name) [] ≡ unwrap_or (before name) [] ++ number_if number noted name
noted-one before without after noted name numbers number removed inserted is =
    elim (cases_Bool (bytes_eq noted name)) [
      | inl is_so ↦
          let same : noted ≡ name = (bytes_eq-Decides noted name).0 is_so in
          let at : is_eq (slice_cmp nat_cmp noted name) ≡ true = is_eq-slice_cmp noted name ∙ is_so in
          rw (inserted name, at, is_so) (is ∙ ap (λ q. unwrap_or (before q) [] ++ number ∷ []) same)
      | inr not_so ↦
          let apart : is_eq (slice_cmp nat_cmp noted name) ≡ false = is_eq-slice_cmp noted name ∙ not_so in
          rw (inserted name, apart, removed name, apart, not_so) (sym (append-nil _))
    ]

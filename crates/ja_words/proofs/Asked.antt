-- What words ask for, by the first of them and the others.
use Rattle.std.proofs.Common.{◌≡◌, ℕ, List, ◌∷◌, codes, get_or, refl, ap, ◌∙◌, subst, arith}
use Rattle.ja_words.specs.Words.{AreWrong, AsksAnalysis, AsksMade, IsAnalyse, IsGenerate}

pub is_analysis : (words : List (List ℕ)) (command : List ℕ) (rest : List (List ℕ)) (dir : List ℕ) (workers limit : ℕ) → words ≡ command ∷ rest
    → command ≡ codes "analyse" → AsksAnalysis rest dir workers limit → IsAnalyse words dir workers limit
is_analysis words command rest dir workers limit split is asks = record { rest = rest; spelled = split ∙ ap (λ (w : List ℕ). w ∷ rest) is; asks = asks }

pub is_made : (words : List (List ℕ)) (command : List ℕ) (rest : List (List ℕ)) (number classes workers : ℕ) → words ≡ command ∷ rest
    → command ≡ codes "generate" → AsksMade rest number classes workers → IsGenerate words number classes workers
is_made words command rest number classes workers split is asks = record { rest = rest; spelled = split ∙ ap (λ (w : List ℕ). w ∷ rest) is; asks = asks }

-- both commands begin otherwise
apart : (a b : ℕ) → a ≡ 97 → b ≡ 103 → a ≡ b → ⊥
apart a b first second same = absurd (omega arith)

pub other_command : codes "analyse" ≡ codes "generate" → ⊥
other_command e = apart 97 103 refl refl (ap (λ (l : List ℕ). get_or l 0 0) e)

-- the words are wrong where they ask for neither
pub wrong_words : (words : List (List ℕ)) (command : List ℕ) (rest : List (List ℕ)) → words ≡ command ∷ rest
    → (command ≡ codes "analyse" → (dir : List ℕ) (workers limit : ℕ) → AsksAnalysis rest dir workers limit → ⊥)
    → (command ≡ codes "generate" → (number classes workers : ℕ) → AsksMade rest number classes workers → ⊥) → AreWrong words
wrong_words words command rest split no_analysis no_made = record {
  no_analysis = λ dir workers limit is.
      let spelled = is.spelled in
      let first : command ≡ codes "analyse" = cc in
      let others : is.rest ≡ rest = cc in
      no_analysis first dir workers limit (subst (λ (r : List (List ℕ)). AsksAnalysis r dir workers limit) others is.asks);
  no_made = λ number classes workers is.
      let spelled = is.spelled in
      let first : command ≡ codes "generate" = cc in
      let others : is.rest ≡ rest = cc in
      no_made first number classes workers (subst (λ (r : List (List ℕ)). AsksMade r number classes workers) others is.asks);
}

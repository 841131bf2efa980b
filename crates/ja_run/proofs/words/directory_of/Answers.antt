use Rattle.std.proofs.Common.{arith, ◌≡◌, ℕ, ◌<◌, ◌≤◌, length, List, [], ◌∷◌, get_or, ap}
use Rattle.std.proofs.lemmas.Slice.Eq.{slice_eq-Decides}
use Rattle.std.proofs.Common.{codes, ◌∙◌}
use Rattle.std.proofs.lemmas.Bool.Decides.{Decides-eqb}
use Rattle.ja_run.specs.Words.{IsDirectory}
use Rattle.ja_run.proofs.words.directory_of.Goals as goal

-- a list of two items is its first and its second
two_items : (xs : List (List ℕ)) (a b : List ℕ) → 2 ≤ length xs → length xs < 3 → a ≡ get_or xs 0 a → b ≡ get_or xs 1 b → xs ≡ a ∷ b ∷ []
two_items [] a b low high first second = absurd (omega arith)
two_items (x ∷ []) a b low high first second = absurd (omega arith)
two_items (x ∷ y ∷ []) a b low high first second = cc
two_items (x ∷ y ∷ z ∷ zs) a b low high first second = absurd (omega arith)

pub returns-then-is_directory-clause-found : goal.returns-then-is_directory-clause-found
returns-then-is_directory-clause-found c =
    let command : c.bytes.result.now ≡ c.as_slice.result.now = (slice_eq-Decides Decides-eqb _ _ _ c.eq.ensures).0 c.if-eq.true in
    let listed : c.args.words.now ≡ c.command-item.result ∷ c.dir-item.result ∷ [] =
    two_items _ _ _ c.in-len2.len_at_least c.in-len2.len_below c.command-item.is c.dir-item.is in
    let name : c.command-item.result ≡ codes "analyse" = cc in
    let dir : IsDirectory c.bytes-then-eq.result.now = c.is_directory.ensures.0 c.if-is_directory.true in
    record {
      spelled = listed ∙ ap (λ (x : List ℕ). x ∷ c.dir-item.result ∷ []) name;
      directory = rw c.bytes-then-eq.ensures at dir;
    }

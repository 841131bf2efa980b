-- Keys among names.
use Rattle.std.proofs.Common.{◌≡◌, ℕ, Bool, ◌&&◌, List, [], ◌∷◌, map, bytes_eq, Bor, refl}
use Rattle.std.specs.List.{list_any}

-- a test of what the items stand for
pub list_any-map : {X Y : Type 0} (test : Y → Bool) (f : X → Y) (xs : List X) → list_any test (map f xs) ≡ list_any (λ x. test (f x)) xs
list_any-map test f [] = refl
list_any-map test f (x ∷ xs) = rw (list_any-map test f xs)

-- the key of a table among names
pub key_step : (names : List (Bor (List ℕ))) (key text : List ℕ) (found rest : Bool) → text ≡ key
    → found ≡ list_any (λ (name : Bor (List ℕ)). bytes_eq text name.now) names
    → (list_any (bytes_eq key) (map (λ (name : Bor (List ℕ)). name.now) names) && rest) ≡ (found && rest)
key_step names key text found rest same is = rw (list_any-map (bytes_eq key) (λ (name : Bor (List ℕ)). name.now) names, ← same, ← is)

-- The number that an option gives.
use Rattle.std.proofs.Common.{◌≡◌, ℕ, List, [], ◌∷◌, Some, None, ap, subst}
use Rattle.std.specs.Prelude.{slice_get}
use Rattle.ja_words.specs.Numbers.{IsGiven, not_given, given, IsNumberIn}

-- an option that is given twice gives none
pub given_twice : (otherwise least most : ℕ) (values : List (List ℕ)) (a : List ℕ) (number : ℕ) → Some a ≡ slice_get values 1 → IsGiven otherwise least most values number → ⊥
given_twice otherwise least most values a _ second (not_given none) = let past : slice_get values 1 ≡ None = ap (λ (l : List (List ℕ)). slice_get l 1) none in cc
given_twice otherwise least most values a number second (given value _ one is) =
    let past : slice_get values 1 ≡ None = ap (λ (l : List (List ℕ)). slice_get l 1) one in cc

-- the number that an option gives is that of its value
pub of_value : (otherwise least most : ℕ) (values : List (List ℕ)) (value : List ℕ) (number : ℕ) → values ≡ value ∷ [] → IsGiven otherwise least most values number
    → IsNumberIn least most value number
of_value otherwise least most values value _ one (not_given none) = cc
of_value otherwise least most values value number one (given other _ also is) =
    let same : other ≡ value = cc in subst (λ (w : List ℕ). IsNumberIn least most w number) same is

-- Words that are numbers.
use Rattle.std.specs.Prelude.{◌≡◌, ℕ, ◌≤◌, List, [], ◌∷◌}
use Rattle.std.specs.Fmt.{decimal}

-- the word is a number in decimal digits, without a zero in front, within these bounds
pub record IsNumberIn (least most : ℕ) (word : List ℕ) (number : ℕ) : Type 0 where
  pub spelled : word ≡ decimal number
  pub low : least ≤ number
  pub high : number ≤ most

-- the number that an option gives, of which these are the values: it is given once at most, and has a number of its own where it is not given
pub data IsGiven (otherwise least most : ℕ) (values : List (List ℕ)) : ℕ → Type 0 where
  not_given : values ≡ [] → IsGiven otherwise least most values otherwise
  given : (value : List ℕ) (number : ℕ) → values ≡ value ∷ [] → IsNumberIn least most value number → IsGiven otherwise least most values number

-- The numbers that the generator draws, and the names that it gives.
use Rattle.std.specs.Prelude.{ℕ, zero, suc, ◌+◌, ◌*◌, ◌/◌, ◌%◌, List, [], ◌∷◌, ◌++◌, codes}

-- the number that is drawn after another
abbrev pub drawn_after : ℕ → ℕ
drawn_after x = (x * 75 + 74) % 65537

-- the number that is drawn first from the user's, and then one for each class before this one
abbrev pub drawn : (number i : ℕ) → ℕ
drawn number zero = number % 65537
drawn number (suc i) = drawn_after (drawn number i)

-- the number of class i, by which the body of its `f` goes
abbrev pub number_of : (number i : ℕ) → ℕ
number_of number i = drawn number (suc i)

-- a decimal digit, and the last four of a number
abbrev pub digit : ℕ → ℕ
digit n = 48 + n % 10

abbrev pub four_digits : ℕ → List ℕ
four_digits n = digit (n / 1000) ∷ digit (n / 100) ∷ digit (n / 10) ∷ digit n ∷ []

-- the name of class i, and that of its file
abbrev pub class_name : ℕ → List ℕ
class_name i = codes "G" ++ four_digits i

abbrev pub file_name : ℕ → List ℕ
file_name i = class_name i ++ codes ".class"

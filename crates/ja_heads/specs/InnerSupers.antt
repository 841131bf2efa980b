-- How the classes at or above a class are listed. Only private functions cite this.
use Rattle.std.specs.Prelude.{ℕ, List, ◌∷◌, ◌++◌, filter, nat_lt}

-- the list with class c at its place among the numbers
abbrev pub with_own : (c : ℕ) → List ℕ → List ℕ
with_own c above = filter (λ d. nat_lt d c) above ++ c ∷ filter (λ d. nat_lt c d) above

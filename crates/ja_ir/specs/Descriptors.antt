-- Which field descriptors are those of references (JVM specification 4.3.2).
use Rattle.std.specs.Prelude.{ℕ, ◌==◌, ◌||◌, Bool, false, List, [], ◌∷◌}

-- the descriptor of a field is that of a class or of an array
abbrev pub is_reference : List ℕ → Bool
is_reference [] = false
is_reference (b ∷ bytes) = (b == 76) || (b == 91)

-- Texts of class files (JVM specification 4.4.7). Three-byte characters stand for surrogates too, and short characters
-- may be spelled long: only the form of the bytes is fixed.
use Rattle.std.specs.Prelude.{◌≡◌, ℕ, ◌<◌, ◌≤◌, List, [], ◌∷◌, length, take, drop}
use Rattle.std.specs.List.{concat, AllByRecursion}

-- a byte behind the first of a character
abbrev pub IsContinuation : ℕ → Type 0
IsContinuation b = (128 ≤ b) × (b < 192)

-- one character: a byte from 1 to 127, or a byte from 192 to 223 and one behind it, or from 224 to 239 and two
abbrev pub IsCharacter : List ℕ → Type 0
IsCharacter [] = ⊥
IsCharacter (a ∷ []) = (1 ≤ a) × (a < 128)
IsCharacter (a ∷ b ∷ []) = (192 ≤ a) × (a < 224) × IsContinuation b
IsCharacter (a ∷ b ∷ c ∷ []) = (224 ≤ a) × (a < 240) × IsContinuation b × IsContinuation c
IsCharacter (a ∷ b ∷ c ∷ d ∷ bytes) = ⊥

-- the bytes are characters, one after another
pub record IsModifiedUtf8 (bytes : List ℕ) : Type 0 where
  pub characters : List (List ℕ)
  pub each : AllByRecursion IsCharacter characters
  pub parts : bytes ≡ concat characters

-- the first wrong character begins at this place: characters stand before it, and no character begins there
pub record IsFirstWrong (bytes : List ℕ) (at : ℕ) : Type 0 where
  pub inside : at < length bytes
  pub before : IsModifiedUtf8 (take at bytes)
  pub wrong : (n : ℕ) → IsCharacter (take n (drop at bytes)) → ⊥

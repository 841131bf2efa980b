-- How far bytes go on as a text of a language does.
use Rattle.std.specs.Prelude.{◌≡◌, ℕ, ◌+◌, ◌<◌, ◌≤◌, List, ◌++◌, length, take}

-- some text of the language begins with these bytes
pub record Begins (P : List ℕ → Type 0) (front : List ℕ) : Type 0 where
  pub more : List ℕ
  pub text : P (front ++ more)

-- n is the length of the longest front of the bytes with which some text of the language begins
pub record IsLongestBegin (P : List ℕ → Type 0) (bytes : List ℕ) (n : ℕ) : Type 0 where
  pub within : n ≤ length bytes
  pub begins : Begins P (take n bytes)
  pub longest : (m : ℕ) → n < m → m ≤ length bytes → Begins P (take m bytes) → ⊥

-- a reader of one text at the front of the bytes is stuck behind n of them: a text may begin with these, none goes on as
-- the bytes do, and the bytes have no text at their front
pub record IsStuck (P : List ℕ → Type 0) (bytes : List ℕ) (n : ℕ) : Type 0 where
  pub within : n ≤ length bytes
  pub begins : Begins P (take n bytes)
  pub dead : n < length bytes → (text more tail : List ℕ) → P text → take (n + 1) bytes ++ more ≡ text ++ tail → ⊥
  pub none : (text tail : List ℕ) → P text → bytes ≡ text ++ tail → ⊥

-- the bytes are no text of the language, and `at` is the length of their longest front with which a text begins
pub record IsWrongAt (P : List ℕ → Type 0) (bytes : List ℕ) (at : ℕ) : Type 0 where
  pub longest : IsLongestBegin P bytes at
  pub none : P bytes → ⊥

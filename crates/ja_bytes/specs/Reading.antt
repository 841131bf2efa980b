-- Reading a file from its front, field by field.
use Rattle.std.specs.Prelude.{◌≡◌, ℕ, ◌+◌, ◌<◌, List, ◌++◌, length}

-- where a reader of a file stands: how many bytes are behind it, and the bytes that are left
pub record Reading : Type 0 where
  pub place : ℕ
  pub rest : List ℕ

-- the reader passed these bytes
pub record Passes (old new : Reading) (bytes : List ℕ) : Type 0 where
  pub parts : old.rest ≡ bytes ++ new.rest
  pub place : new.place ≡ old.place + length bytes

-- fewer bytes are left than a field of this length has; the field begins at this place, and the reader stays there
pub record Ends (old new : Reading) (len : ℕ) (at : ℕ) : Type 0 where
  pub short : length old.rest < len
  pub at_place : at ≡ old.place
  pub stays : new ≡ old

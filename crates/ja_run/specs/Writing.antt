-- How a text is written.
use Rattle.std.specs.Prelude.{ℕ, ◌<◌, List, length, take, Option}
use Rattle.std.specs.Io.KnownBytes.{Appends}

-- less than the whole text was written, from its front
pub record IsCut (before after : Option (List ℕ)) (text : List ℕ) : Type 0 where
  pub taken : ℕ
  pub less : taken < length text
  pub front : Appends before after (take taken text)

-- What a pool keeps. Only private functions speak of it.
use Rattle.std.specs.Prelude.{◌≡◌, ℕ, ◌<◌, ◌^◌, List, length, map}
use Rattle.ja_pool.specs.declared.slot.Slot.{Slot}
use Rattle.ja_pool.specs.Table.{Table, tags_of, dims_of}
use Rattle.ja_pool.specs.InnerSlot.{seen, AreInside, AreTagged}

-- the table that slots hold, where these are the pool's bytes
abbrev pub table_in : List ℕ → List Slot → Table
table_in bytes slots = map (seen bytes) slots

-- the tags and the brackets are those of the table, the texts are among the bytes, the forms have tags of
-- their own, and there are at most 65,535 indices
pub record IsKept (bytes tags dims : List ℕ) (slots : List Slot) : Type 0 where
  pub tags_are : tags ≡ tags_of (table_in bytes slots)
  pub dims_are : dims ≡ dims_of (table_in bytes slots)
  pub inside : AreInside bytes slots
  pub tagged : AreTagged slots
  pub few : length slots < 2 ^ 16

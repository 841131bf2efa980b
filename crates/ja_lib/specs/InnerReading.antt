-- What the readers of a table file's parts answer.
use Rattle.std.specs.Prelude.{◌≡◌, ℕ, List, Option, Some, option_map, Result, Ok, Err}
use Rattle.std.specs.Borrow.{Bor}
use Rattle.toml.specs.Data.{Data, Members}
use Rattle.toml.specs.View.{view, items_view}
use Rattle.toml.specs.declared.value.Value.{Value}
use Rattle.ja_lib.specs.declared.part.PartFault.{PartFault}
use Rattle.ja_lib.specs.declared.part.PartFault.TheVariants.{Wrong, Memory}
use Rattle.ja_lib.specs.declared.spelled.PlacedFault.{PlacedFault}
use Rattle.ja_lib.specs.declared.spelled.PlacedFault.TheVariants as placed
use Rattle.ja_lib.specs.declared.fault.TableFault.{TableFault}
use Rattle.ja_lib.specs.declared.fault.TableFault.TheVariants as faults
use Rattle.ja_lib.specs.File.{SpellAll, SpellsRow, SpellsEntry, IsFirstWrong, categories_at, tables_in}

-- the thing that is meant, or that nothing is; want of memory may always be
abbrev pub Finds : {A : Type 0} → (A → Type 0) → Result A PartFault → Type 0
Finds IsMeant (Ok thing) = IsMeant thing
Finds {A} IsMeant (Err Wrong) = (thing : A) → IsMeant thing → ⊥
Finds IsMeant (Err Memory) = Unit {0}

-- the thing that the option has, or that it has none
abbrev pub Gives : {A : Type 0} → Option A → Result A PartFault → Type 0
Gives meant result = Finds (λ thing. meant ≡ Some thing) result

-- what each table spells, or the place of the first that spells nothing
abbrev pub FindsAll : {A : Type 0} → (Members → A → Type 0) → List Members → Result (List A) PlacedFault → Type 0
FindsAll Spells tables (Ok things) = SpellAll Spells tables things
FindsAll Spells tables (Err (placed.Wrong place)) = IsFirstWrong Spells tables place
FindsAll Spells tables (Err placed.Memory) = Unit {0}

-- the data of a value, where there is one
abbrev pub seen_of : Option (Bor Value) → Option Data
seen_of value = option_map (λ (v : Bor Value). view v.now) value

-- these values are the tables of an array of tables alone
abbrev pub AreTables : List Value → List Members → Type 0
AreTables values tables = tables_in (items_view values) ≡ Some tables

-- the place of the first table that spells no row, or want of memory
abbrev pub IsRowFault : (names : List (List ℕ)) → List Members → TableFault → Type 0
IsRowFault names tables (faults.BadRow place) = IsFirstWrong (SpellsRow names) tables place
IsRowFault names tables faults.Memory = Unit {0}
IsRowFault names tables _ = ⊥

-- the place of the first table that spells no entry, or want of memory
abbrev pub IsEntryFault : (names : List (List ℕ)) → List Members → TableFault → Type 0
IsEntryFault names tables (faults.BadEntry place) = IsFirstWrong (SpellsEntry names) tables place
IsEntryFault names tables faults.Memory = Unit {0}
IsEntryFault names tables _ = ⊥

-- the value at the key of categories is no list of them, or memory ran out
abbrev pub IsCategoryFault : Option Data → TableFault → Type 0
IsCategoryFault value faults.BadCategory = (names : List (List ℕ)) → categories_at value ≡ Some names → ⊥
IsCategoryFault value faults.Memory = Unit {0}
IsCategoryFault value _ = ⊥

-- How rows of bits, one for each class, show what lies above it. Only private functions cite this.
use Rattle.std.specs.Prelude.{◌≡◌, ℕ, suc, ◌<◌, ◌⊎◌, ◌↔◌, Bool, true, false, List, [], ◌∷◌, Contains, length, slice_index_or, if◌then◌else◌}
use Rattle.std.specs.List.Sorted.{IsStrictlyIncreasing}
use Rattle.ja_sets.specs.Sets.{Has, union}
use Rattle.ja_ir.specs.declared.head.ClassHead.{ClassHead}
use Rattle.ja_supertypes.specs.Supertypes.{IsDirect, IsSupertype}

-- a row after the ways through class k were added
abbrev pub stepped : (k : ℕ) (middle row : List Bool) → List Bool
stepped k middle row = if slice_index_or row k false then union row middle else row

-- the rows show the direct supertypes
pub record ShowsDirect (heads : List ClassHead) (rows : List (List Bool)) : Type 0 where
  pub size : length rows ≡ length heads
  pub widths : (i : ℕ) → i < length heads → length (slice_index_or rows i []) ≡ length heads
  pub exact : (i j : ℕ) → i < length heads → Has (slice_index_or rows i []) j ↔ IsDirect heads i j

-- the rows of a square show the proper supertypes
pub record ShowsAll (heads : List ClassHead) (rows : List (List Bool)) : Type 0 where
  pub size : length rows ≡ length heads
  pub widths : (i : ℕ) → i < length heads → length (slice_index_or rows i []) ≡ length heads
  pub exact : (i j : ℕ) → i < length heads → Has (slice_index_or rows i []) j ↔ IsSupertype heads i j

-- the set, below a bound, has what the list has
pub record IsSetOf (places : List ℕ) (len : ℕ) (set : List Bool) : Type 0 where
  pub width : length set ≡ len
  pub exact : (d : ℕ) → Has set d ↔ Contains places d

-- for each list its set
pub record AreSets (lists : List (List ℕ)) (len : ℕ) (sets : List (List Bool)) : Type 0 where
  pub size : length sets ≡ length lists
  pub each : (i : ℕ) → i < length lists → IsSetOf (slice_index_or lists i []) len (slice_index_or sets i [])

-- a set has what the own set of class c has, and what the own sets of the listed classes have
pub record IsGathered (own : List (List Bool)) (c : ℕ) (listed : List ℕ) (len : ℕ) (set : List Bool) : Type 0 where
  pub width : length set ≡ len
  pub exact : (i : ℕ) → Has set i ↔ (Has (slice_index_or own c []) i ⊎ ((d : ℕ) × Contains listed d × Has (slice_index_or own d []) i))

-- for each class such a set
pub record AreGathered (own : List (List Bool)) (lists : List (List ℕ)) (len : ℕ) (sets : List (List Bool)) : Type 0 where
  pub size : length sets ≡ length lists
  pub each : (c : ℕ) → c < length lists → IsGathered own c (slice_index_or lists c []) len (slice_index_or sets c [])

-- how many bits are set
abbrev pub count : List Bool → ℕ
count [] = 0
count (true ∷ bits) = suc (count bits)
count (false ∷ bits) = count bits

-- the list has the members of the set in ascending order
pub record IsMembers (set : List Bool) (list : List ℕ) : Type 0 where
  pub exact : (d : ℕ) → Contains list d ↔ Has set d
  pub increasing : IsStrictlyIncreasing list
  pub counted : length list ≡ count set

-- for each set the list of its members
pub record AreMembers (sets : List (List Bool)) (lists : List (List ℕ)) : Type 0 where
  pub size : length lists ≡ length sets
  pub each : (c : ℕ) → c < length sets → IsMembers (slice_index_or sets c []) (slice_index_or lists c [])

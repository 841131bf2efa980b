-- The row of a call: what the call does where it goes to the library.
use Rattle.std.specs.Prelude.{◌≡◌, ℕ, List, [], ◌∷◌, ◌++◌, Option, Some, None, unwrap_or}
use Rattle.std.specs.Option.{option_or}
use Rattle.ja_ir.specs.declared.head.ClassHead.{ClassHead}
use Rattle.ja_ir.specs.declared.row.LibRow.{LibRow}
use Rattle.ja_ir.specs.declared.row.RowFlow.TheVariants.{Args}
use Rattle.ja_ir.specs.declared.row.RowEffect.TheVariants.{Blend}
use Rattle.ja_ir.specs.declared.row.RowResult.TheVariants.{Any}
use Rattle.ja_lib.specs.declared.row.TableRow.{TableRow}
use Rattle.ja_lib.specs.Content.{Content, all_marks}
use Rattle.ja_lib.specs.Rows.{row_for}
use Rattle.ja_supertypes.specs.Supertypes.{class_named, object_name}
use Rattle.ja_operations.specs.declared.member.MemberRef.{MemberRef}
use Rattle.ja_supertypes.specs.LibraryTypes.{AreLibraryTypes}

-- the names of classes under which a call of a method of this class is looked up, in order: a library class or an array class
-- itself, else the library types of the program class; then java/lang/Object
pub data AreTried (heads : List ClassHead) (class : List ℕ) : List (List ℕ) → Type 0 where
  of_library : class_named heads class ≡ None → AreTried heads class (class ∷ object_name ∷ [])
  of_program : {c : ℕ} {names : List (List ℕ)} → class_named heads class ≡ Some c → AreLibraryTypes heads c names
      → AreTried heads class (names ++ object_name ∷ [])

-- what is said of a call of which no row speaks, where these are the categories of marks
abbrev pub default_row : (categories : List (List ℕ)) → LibRow
default_row categories = record { flow = Args; effect = Blend; result = Any; sinks = []; marks = all_marks categories; category = 0 }

-- what the first of the names that has a row for the method says
abbrev pub first_row : List TableRow → (names : List (List ℕ)) → (method desc : List ℕ) → Option LibRow
first_row rows [] method desc = None
first_row rows (name ∷ names) method desc = option_or (row_for rows name method desc) (first_row rows names method desc)

-- the first row of the names that are tried for a method, if there is one
pub record IsFirstRow (heads : List ClassHead) (rows : List TableRow) (member : MemberRef) (found : Option LibRow) : Type 0 where
  pub names : List (List ℕ)
  pub tried : AreTried heads member.class names
  pub is : found ≡ first_row rows names member.name member.desc

-- the row of a call of a method: that one, or the default
pub record IsRow (heads : List ClassHead) (table : Content) (member : MemberRef) (row : LibRow) : Type 0 where
  pub found : Option LibRow
  pub first : IsFirstRow heads table.rows member found
  pub is : row ≡ unwrap_or found (default_row table.categories)

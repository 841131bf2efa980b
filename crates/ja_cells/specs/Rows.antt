-- The cells of the slots before an instruction, and how an operation moves them.
use Rattle.std.specs.Prelude.{ℕ, zero, suc, ◌-◌, Bool, true, false, List, [], ◌∷◌, ◌++◌, Option, Some, None, length, map, take, drop, slice_get, slice_index_or, slice_set, if◌then◌else◌, replicate}
use Rattle.ja_base.specs.declared.java_type.Kind.{Kind}
use Rattle.ja_base.specs.declared.java_type.Kind.TheVariants.{R}
use Rattle.ja_ir.specs.declared.program.Parts.{Parts}
use Rattle.ja_ir.specs.declared.class.ClassInfo.{ClassInfo}
use Rattle.ja_ir.specs.declared.op.Op.{Op}
use Rattle.ja_ir.specs.declared.op.Op.TheVariants.{Text, New, Load, Store, ArrLoad, Shuffle, GetStatic, GetField, Call, NewArray, Cast}
use Rattle.ja_ir.specs.Lookup.{is_abstract, is_interface}
use Rattle.ja_ir.specs.Operations.{pops, pushes, result_count}
use Rattle.ja_ir.specs.Tokens.{text_token, rarr_token}
use Rattle.ja_network.specs.declared.cell.Cell.{Cell}
use Rattle.ja_network.specs.declared.cell.Cell.TheVariants.{Nothing, Single, Field, Bag, Pushed, Before}

-- objects of the class, if there is one, can be made: it is neither abstract nor an interface
abbrev pub is_made : Option ClassInfo → Bool
is_made None = true
is_made (Some class) = if is_abstract class.flags then false else (if is_interface class.flags then false else true)

-- the cell of a new object of the token: one without tokens where there can be no such object
abbrev pub made_cell : Parts → (token : ℕ) → Cell
made_cell p token = if is_made (slice_get p.classes token) then Single token else Nothing

-- the token of a new array of so many dimensions whose innermost is of this token
abbrev pub outer_token : Parts → (last dimensions : ℕ) → ℕ
outer_token p last zero = last
outer_token p last (suc zero) = last
outer_token p last (suc (suc n)) = rarr_token p

-- the cell of an array's element of this kind: all arrays of references have one bag
abbrev pub element_cell : Parts → Kind → Cell
element_cell p R = Bag (rarr_token p)
element_cell p _ = Nothing

-- the cells of what instruction i of method m pushes, where this is no copy of what was there
abbrev pub pushed_cells : Parts → (m i : ℕ) → Op → List Cell
pushed_cells p m i Text = Single (text_token p) ∷ []
pushed_cells p m i (New token) = made_cell p token.0 ∷ []
pushed_cells p m i (NewArray last dimensions) = Single (outer_token p last.0 dimensions) ∷ []
pushed_cells p m i (ArrLoad kind) = element_cell p kind ∷ []
pushed_cells p m i (GetField field) = Field field.0 ∷ []
pushed_cells p m i (GetStatic field) = Field field.0 ∷ []
pushed_cells p m i (Cast name) = Pushed m i ∷ []
pushed_cells p m i (Call call) = replicate (result_count call.result) (Pushed m i)
pushed_cells p m i op = replicate (pushes op) Nothing

-- the cell at a place, and one without tokens past the end
abbrev pub cell_in : List Cell → ℕ → Cell
cell_in row z = slice_index_or row z Nothing

-- the row without its last cells
abbrev pub without_last : (n : ℕ) → List Cell → List Cell
without_last n row = take (length row - n) row

-- the last cells of the row
abbrev pub last_of : (n : ℕ) → List Cell → List Cell
last_of n row = drop (length row - n) row

-- the cells after a load of a local
abbrev pub loaded : List Cell → (local : ℕ) → List Cell
loaded row local = row ++ cell_in row local ∷ []

-- the cells after a store to a local
abbrev pub stored : List Cell → (local : ℕ) → List Cell
stored row local = slice_set (without_last 1 row) local (cell_in row (length row - 1))

-- the cells after a shuffle that took so many values
abbrev pub shuffled : List Cell → (count : ℕ) → (pushed : List ℕ) → List Cell
shuffled row count pushed = without_last count row ++ map (cell_in (last_of count row)) pushed

-- the cells after an operation that copies nothing
abbrev pub plain : Parts → (m i : ℕ) → Op → List Cell → List Cell
plain p m i op row = without_last (pops op) row ++ pushed_cells p m i op

-- the cells of the slots at the normal end of instruction i of method m, before which they are these
abbrev pub next_row : Parts → (m i : ℕ) → Op → List Cell → List Cell
next_row p m i (Load kind local) row = loaded row local
next_row p m i (Store kind local) row = stored row local
next_row p m i (Shuffle count pushed) row = shuffled row count pushed
next_row p m i op row = plain p m i op row

-- cells of their own for so many slots before instruction j of method m, from slot z on
abbrev pub own_row : (m j z count : ℕ) → List Cell
own_row m j z zero = []
own_row m j z (suc count) = Before m j z ∷ own_row m j (suc z) count

-- What an operation makes, where what it takes goes, and what it throws.
use Rattle.std.specs.Prelude.{ℕ, zero, suc, Bool, true, List, [], ◌++◌, Option, Some, None, slice_get, if◌then◌else◌}
use Rattle.ja_base.specs.declared.java_type.Kind.{Kind}
use Rattle.ja_base.specs.declared.java_type.Kind.TheVariants.{R}
use Rattle.ja_ir.specs.declared.program.Parts.{Parts}
use Rattle.ja_ir.specs.declared.op.Op.{Op}
use Rattle.ja_ir.specs.declared.op.Op.TheVariants.{Text, New, NewArray, ArrStore, Return, PutStatic, PutField, Throw, Cast}
use Rattle.ja_ir.specs.Operations.{may_throw}
use Rattle.ja_ir.specs.Tokens.{text_token, rarr_token}
use Rattle.ja_facts.specs.ClassTables.{throws_some}
use Rattle.ja_network.specs.declared.cell.Cell.{Cell}
use Rattle.ja_network.specs.declared.cell.Cell.TheVariants.{Single, Field, Bag, Answer, Thrown}
use Rattle.ja_network.specs.declared.cell.Action.TheVariants.{Check}
use Rattle.ja_network.specs.declared.cell.Action.TheVariants.{Throw as Throws}
use Rattle.ja_cells.specs.Rows.{is_made, outer_token}
use Rattle.ja_constraints.specs.declared.constraint.Constraint.{Constraint}
use Rattle.ja_constraints.specs.Links.{link, copy, gets, throws_library}

-- an object of the token is made
abbrev pub makes : (token : ℕ) → List Constraint
makes token = gets (Single token) token

-- an object of a class is made, where it can be
abbrev pub makes_new : Parts → (token : ℕ) → List Constraint
makes_new p token = if is_made (slice_get p.classes token) then makes token else []

-- what is in the bag of an array of references of so many dimensions when it is made, whose innermost arrays are of this token
abbrev pub fills_array : Parts → (last dimensions : ℕ) → List Constraint
fills_array p last zero = []
fills_array p last (suc zero) = []
fills_array p last (suc (suc zero)) = gets (Bag (rarr_token p)) last
fills_array p last (suc (suc (suc n))) = gets (Bag (rarr_token p)) last ++ gets (Bag (rarr_token p)) (rarr_token p)

-- an array is made
abbrev pub makes_array : Parts → (last dimensions : ℕ) → List Constraint
makes_array p last dimensions = makes (outer_token p last dimensions) ++ fills_array p last dimensions

-- an element of this kind is stored from a cell: all arrays of references have one bag
abbrev pub stores : Parts → (from : Cell) → Kind → List Constraint
stores p from R = copy from (Bag (rarr_token p))
stores p from _ = []

-- a result is returned from a cell, where there is one
abbrev pub returns : (m : ℕ) (from : Cell) → Option Kind → List Constraint
returns m from (Some kind) = copy from (Answer m)
returns m from None = []

-- what instruction i of method m makes, and where its topmost value goes, which is in this cell
abbrev pub does : Parts → (m i : ℕ) (top : Cell) → Op → List Constraint
does p m i top Text = makes (text_token p)
does p m i top (New token) = makes_new p token.0
does p m i top (NewArray last dimensions) = makes_array p last.0 dimensions
does p m i top (ArrStore kind) = stores p top kind
does p m i top (PutField field) = copy top (Field field.0)
does p m i top (PutStatic field) = copy top (Field field.0)
does p m i top (Cast name) = link top (Check m i)
does p m i top Throw = copy top (Thrown m i)
does p m i top (Return kind) = returns m top kind
does p m i top op = []

-- the operation throws a library object by choice, or where the reference that it throws is null
abbrev pub may_throw_library : Op → Bool
may_throw_library Throw = true
may_throw_library op = may_throw op

-- a library object is thrown, where it is so
abbrev pub raises_library : Parts → (m i : ℕ) (raises : Bool) → List Constraint
raises_library p m i raises = if raises then throws_library p m i else []

-- what an operation throws whatever is there, and that what it throws goes somewhere
abbrev pub raises : Parts → (m i : ℕ) → Op → List Constraint
raises p m i op = raises_library p m i (may_throw_library op) ++ (if throws_some op then link (Thrown m i) (Throws m i) else [])

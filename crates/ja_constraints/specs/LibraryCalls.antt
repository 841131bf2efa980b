-- What a call of the library throws, changes and answers.
use Rattle.std.specs.Prelude.{ℕ, ◌==◌, ◌&&◌, Bool, true, false, List, [], ◌∷◌, ◌++◌, Option, Some, None, map, if◌then◌else◌}
use Rattle.ja_base.specs.declared.java_type.Kind.{Kind}
use Rattle.ja_base.specs.declared.java_type.Kind.TheVariants.{R}
use Rattle.ja_base.specs.declared.java_type.JavaType.{JavaType}
use Rattle.ja_ir.specs.declared.program.Parts.{Parts}
use Rattle.ja_ir.specs.declared.row.RowEffect.{RowEffect}
use Rattle.ja_ir.specs.declared.row.RowEffect.TheVariants.{Quiet, Absorb, Blend}
use Rattle.ja_ir.specs.declared.row.RowResult.{RowResult}
use Rattle.ja_ir.specs.declared.row.RowResult.TheVariants.{Fresh, Argument, Member, Any}
use Rattle.ja_ir.specs.declared.op.CallOp.{CallOp}
use Rattle.ja_ir.specs.declared.op.CallKind.{CallKind}
use Rattle.ja_ir.specs.declared.op.Op.{Op}
use Rattle.ja_ir.specs.declared.op.Op.TheVariants.{Call}
use Rattle.ja_ir.specs.Operations.{arguments, has_receiver}
use Rattle.ja_ir.specs.Tokens.{Shape, rarr_token, fits_shape, shape_of, fresh_tokens, bagged_tokens}
use Rattle.ja_network.specs.declared.cell.Cell.{Cell}
use Rattle.ja_network.specs.declared.cell.Cell.TheVariants.{Bag, Takers, Pushed}
use Rattle.ja_network.specs.declared.cell.Action.TheVariants.{Return, Source, Fill, Lead}
use Rattle.ja_constraints.specs.declared.constraint.Constraint.{Constraint}
use Rattle.ja_constraints.specs.declared.constraint.Constraint.TheVariants.{Has}
use Rattle.ja_constraints.specs.Links.{link, gets, throws_library, over}
use Rattle.ja_constraints.specs.Places.{argument_cell}

-- argument k is one of those whose objects a call of this kind with this effect may change
abbrev pub is_source : CallKind → (k : ℕ) → RowEffect → Bool
is_source kind k Quiet = false
is_source kind k Absorb = has_receiver kind && (k == 0)
is_source kind k Blend = true

-- an argument, which is in a cell, leads to takers, if it is a source
abbrev pub source : (m i k : ℕ) (from : Cell) → CallOp → List Constraint
source m i k from call = if is_source call.kind k call.row.effect then link from (Source m i) else []

-- how a result of this form comes from argument k, which is in a cell
abbrev pub answers_from : (m i k : ℕ) (from : Cell) → RowResult → List Constraint
answers_from m i k from Fresh = []
answers_from m i k from Argument = if k == 0 then link from (Return m i) else []
answers_from m i k from Member = if k == 0 then link from (Lead m i) else []
answers_from m i k from Any = link from (Lead m i)

-- the kind is that of references
abbrev pub is_reference : Kind → Bool
is_reference R = true
is_reference _ = false

-- a result of this type, if there is one, is a reference
abbrev pub has_reference : Option JavaType → Bool
has_reference None = false
has_reference (Some type) = is_reference type.kind

-- how the result comes from argument k, which is in a cell
abbrev pub result_from : (m i k : ℕ) (from : Cell) → CallOp → List Constraint
result_from m i k from call = if has_reference call.result then answers_from m i k from call.row.result else []

-- what argument k, which is in a cell, does in a call of the library
abbrev pub argument_does : (m i k : ℕ) (from : Cell) → CallOp → List Constraint
argument_does m i k from call = source m i k from call ++ result_from m i k from call

-- what all arguments do
abbrev pub arguments_do : (m i : ℕ) (row : List Cell) (locals height : ℕ) → CallOp → List Constraint
arguments_do m i row locals height call = over (λ k. argument_does m i k (argument_cell row locals height call k) call) 0 (arguments call)

-- the call answers the token, where it fits a type of the shape
abbrev pub answers_shape : Parts → (m i : ℕ) → Shape → (token : ℕ) → List Constraint
answers_shape p m i shape token = if fits_shape p token shape then gets (Pushed m i) token else []

-- the call answers those of the tokens that fit the type of a name
abbrev pub answers_each : Parts → (m i : ℕ) (name : List ℕ) → List ℕ → List Constraint
answers_each p m i name [] = []
answers_each p m i name (token ∷ tokens) = answers_shape p m i (shape_of p name) token ++ answers_each p m i name tokens

-- arrays of references have these tokens in their bags
abbrev pub fills : Parts → List ℕ → List Constraint
fills p tokens = map (Has (Bag (rarr_token p))) tokens

-- a result of this form makes something new
abbrev pub makes_result : RowResult → Bool
makes_result Argument = false
makes_result _ = true

-- what is in the bags of what is made for a result of this form and a type of this name
abbrev pub fills_result : Parts → RowResult → (name : List ℕ) → List Constraint
fills_result p result name = if makes_result result then fills p (bagged_tokens p name) else []

-- what is made for a result of this form and type
abbrev pub makes_for : Parts → (m i : ℕ) → RowResult → JavaType → List Constraint
makes_for p m i result type = if is_reference type.kind then answers_each p m i type.name (fresh_tokens p type) ++ fills_result p result type.name else []

-- what is made for the result, if there is one
abbrev pub makes_new : Parts → (m i : ℕ) → RowResult → Option JavaType → List Constraint
makes_new p m i result None = []
makes_new p m i result (Some type) = makes_for p m i result type

-- what an operation does in the library, if it is a call
abbrev pub does_there : Parts → (m i : ℕ) (row : List Cell) (locals height : ℕ) → Op → List Constraint
does_there p m i row locals height (Call call) = arguments_do m i row locals height call ++ makes_new p m i call.row.result call.result
does_there p m i row locals height op = []

-- a call of the library throws a library object, and its takers take the arguments
abbrev pub goes_there : Parts → (m i : ℕ) → List Constraint
goes_there p m i = throws_library p m i ++ link (Takers m i) (Fill m i)

-- Categories of marks, and the program that is about one of them.
use Rattle.std.specs.Prelude.{ℕ, suc, Bool, true, false, List, [], ◌∷◌, length, map, slice_get, unwrap_or, if◌then◌else◌}
use Rattle.ja_ir.specs.declared.program.Parts.{Parts}
use Rattle.ja_ir.specs.declared.entry.Entry.{Entry}
use Rattle.ja_ir.specs.declared.method.Method.{Method}
use Rattle.ja_ir.specs.declared.method.Instr.{Instr}
use Rattle.ja_ir.specs.declared.op.CallOp.{CallOp}
use Rattle.ja_ir.specs.declared.op.Op.{Op}
use Rattle.ja_ir.specs.declared.op.Op.TheVariants.{Call}
use Rattle.ja_ir.specs.declared.row.LibRow.{LibRow}
use Rattle.ja_ir.specs.declared.row.RowFlow.{RowFlow}
use Rattle.ja_ir.specs.declared.row.RowFlow.TheVariants.{Always, Args}

-- the number of categories where these are their names: one where there are none, which then has no name
abbrev pub count_of_names : List (List ℕ) → ℕ
count_of_names [] = 1
count_of_names (name ∷ names) = suc (length names)

-- the number of categories of a program
abbrev pub category_count : Parts → ℕ
category_count p = count_of_names p.categories

-- category c is among those that are flagged
abbrev pub has_category : (flags : List Bool) → (c : ℕ) → Bool
has_category flags c = unwrap_or (slice_get flags c) false

-- a flow, as a category sees it that it does or does not mark: one that is always there, but without marks of the category, comes from the
-- arguments alone
abbrev pub flow_for : (marks : Bool) → RowFlow → RowFlow
flow_for false Always = Args
flow_for marks flow = flow

-- a row, as category c sees it
abbrev pub row_in : (c : ℕ) → LibRow → LibRow
row_in c row = record row { flow = flow_for (has_category row.marks c) row.flow }

-- a call, as category c sees it
abbrev pub call_in : (c : ℕ) → CallOp → CallOp
call_in c call = record call { row = row_in c call.row }

-- an operation, as category c sees it
abbrev pub op_in : (c : ℕ) → Op → Op
op_in c (Call call) = Call (call_in c call)
op_in c op = op

-- an instruction, as category c sees it
abbrev pub instr_in : (c : ℕ) → Instr → Instr
instr_in c instr = record instr { op = op_in c instr.op }

-- a method, as category c sees it
abbrev pub method_in : (c : ℕ) → Method → Method
method_in c method = record method { code = map (instr_in c) method.code }

-- an entry, as category c sees it: without marks of the category no position may be given marked things
abbrev pub entry_in : (c : ℕ) → Entry → Entry
entry_in c entry = record entry { marked = if has_category entry.marks c then entry.marked else [] }

-- the program of category c
abbrev pub projected : (c : ℕ) → Parts → Parts
projected c p = record p { methods = map (method_in c) p.methods; entries = map (entry_in c) p.entries }

-- The results of class sets as tables: which token is in which set, and what a table tells.
use Rattle.std.specs.Prelude.{ℕ, ◌+◌, Bool, true, false, List, [], length, map, replicate, slice_index_or, if◌then◌else◌}
use Rattle.ja_ir.specs.declared.program.Parts.{Parts}
use Rattle.ja_ir.specs.declared.method.Method.{Method}
use Rattle.ja_ir.specs.declared.method.Instr.{Instr}
use Rattle.ja_ir.specs.declared.op.Op.{Op}
use Rattle.ja_ir.specs.declared.op.Op.TheVariants.{Throw, Call}
use Rattle.ja_ir.specs.Operations.{may_throw}
use Rattle.ja_ir.specs.Params.{param_count}
use Rattle.ja_facts.specs.Listing.{listed_at}

-- the number of tokens of a program
abbrev pub token_count : Parts → ℕ
token_count p = length p.classes + 4

-- the empty set of numbers below a bound
abbrev pub no_members : ℕ → List Bool
no_members n = replicate n false

-- class sets by the numbers of methods, instructions, slots, parameters, fields and tokens; a set that is not listed is empty
pub record ClassTable : Type 0 where
  pub slots : List (List (List (List Bool)))
  pub thrown : List (List (List (List Bool)))
  pub params : List (List (List Bool))
  pub results : List (List Bool)
  pub outs : List (List Bool)
  pub fields : List (List Bool)
  pub bags : List (List Bool)
  -- the empty set
  pub none : List Bool

-- the set of slot z before instruction i of method m
abbrev pub slot_set : ClassTable → (m i z : ℕ) → List Bool
slot_set table m i z = listed_at table.slots m i z table.none

-- the set of what an instruction throws
abbrev pub thrown_set : ClassTable → (m i : ℕ) → List Bool
thrown_set table m i = listed_at table.thrown m i 0 table.none

-- the set of parameter k
abbrev pub param_set : ClassTable → (m k : ℕ) → List Bool
param_set table m k = slice_index_or (slice_index_or table.params m []) k table.none

-- the set of the results of a method
abbrev pub result_set : ClassTable → (m : ℕ) → List Bool
result_set table m = slice_index_or table.results m table.none

-- the set of what a method throws out
abbrev pub out_set : ClassTable → (m : ℕ) → List Bool
out_set table m = slice_index_or table.outs m table.none

-- the set of a field
abbrev pub field_set : ClassTable → (f : ℕ) → List Bool
field_set table f = slice_index_or table.fields f table.none

-- the set of what is in the bags of a token
abbrev pub bag_set : ClassTable → (t : ℕ) → List Bool
bag_set table t = slice_index_or table.bags t table.none

-- some end of the operation throws
abbrev pub throws_some : Op → Bool
throws_some Throw = true
throws_some (Call _) = true
throws_some op = may_throw op

-- how many slots an instruction that is reached has before it: its locals, and what is on the stack
abbrev pub slots_before : Method → Instr → ℕ
slots_before method instr = if instr.reached then method.locals + instr.height else 0

-- 1 for a reached instruction that may throw, 0 for another
abbrev pub throws_before : Instr → ℕ
throws_before instr = if instr.reached then (if throws_some instr.op then 1 else 0) else 0

-- the empty sets, of numbers below n, of the slots before each instruction of a method
abbrev pub empty_slots_of : (n : ℕ) → Method → List (List (List Bool))
empty_slots_of n method = map (λ (instr : Instr). replicate (slots_before method instr) (no_members n)) method.code

-- the empty sets, of numbers below n, of what each instruction of a method throws
abbrev pub empty_thrown_of : (n : ℕ) → Method → List (List (List Bool))
empty_thrown_of n method = map (λ (instr : Instr). replicate (throws_before instr) (no_members n)) method.code

-- so many empty sets of tokens
abbrev pub empties : Parts → ℕ → List (List Bool)
empties p count = replicate count (no_members (token_count p))

-- the table of a program in which every set is empty
abbrev pub empty_classes : Parts → ClassTable
empty_classes p = record {
  slots = map (empty_slots_of (token_count p)) p.methods;
  thrown = map (empty_thrown_of (token_count p)) p.methods;
  params = map (λ (method : Method). empties p (param_count method)) p.methods;
  results = empties p (length p.methods);
  outs = empties p (length p.methods);
  fields = empties p (length p.fields);
  bags = empties p (token_count p);
  none = no_members (token_count p);
}

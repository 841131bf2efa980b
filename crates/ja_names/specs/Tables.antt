-- How large the sets of tables of pairs and of effects are.
use Rattle.std.specs.Prelude.{◌≡◌, ℕ, ◌+◌, ◌<◌, Bool, List, [], Some, length, slice_get, slice_index_or}
use Rattle.ja_ir.specs.declared.program.Parts.{Parts}
use Rattle.ja_ir.specs.declared.method.Method.{Method}
use Rattle.ja_ir.specs.Params.{param_count}
use Rattle.ja_facts.specs.FactTables.{name_count}

-- there is a set of pairs of a method's names before each of its instructions
pub record HasPairSets (p : Parts) (pairs : List (List (List (List Bool)))) : Type 0 where
  pub counted : (m : ℕ) (method : Method) → slice_get p.methods m ≡ Some method → length (slice_index_or pairs m []) ≡ length method.code
  pub each : (m i : ℕ) (method : Method) → slice_get p.methods m ≡ Some method → i < length method.code → length (slice_index_or (slice_index_or pairs m []) i []) ≡ name_count method

-- a method has a flag for each of its parameters, and one more
abbrev pub HasFlags : Parts → List (List Bool) → Type 0
HasFlags p effects = (m : ℕ) (method : Method) → slice_get p.methods m ≡ Some method → length (slice_index_or effects m []) ≡ param_count method + 1

-- The results of the other analyses as tables.
use Rattle.std.specs.Prelude.{ℕ, ◌+◌, Bool, false, List, [], length, map, replicate, slice_index_or}
use Rattle.ja_ir.specs.declared.program.Parts.{Parts}
use Rattle.ja_ir.specs.declared.method.Method.{Method}
use Rattle.ja_ir.specs.declared.method.Instr.{Instr}
use Rattle.ja_ir.specs.declared.op.Op.{Op}
use Rattle.ja_ir.specs.declared.op.Op.TheVariants.{Call}
use Rattle.ja_facts.specs.declared.targets.Targets.{Targets}
use Rattle.ja_ir.specs.Params.{param_count}
use Rattle.ja_facts.specs.Listing.{listed_at}
use Rattle.ja_facts.specs.ClassTables.{token_count, no_members}

-- no target
abbrev pub no_targets : Targets
no_targets = record { methods = []; library = false }

-- the call graph by the numbers of methods and instructions; targets and takers that are not listed are none
pub record GraphTable : Type 0 where
  pub reached : List (List Bool)
  pub targets : List (List (List Targets))
  pub takers : List (List (List (List Bool)))
  -- the empty set of tokens
  pub none : List Bool

-- whether instruction i of method m is reached
abbrev pub is_reached : GraphTable → (m i : ℕ) → Bool
is_reached table m i = slice_index_or (slice_index_or table.reached m []) i false

-- where a call goes
abbrev pub targets_at : GraphTable → (m i : ℕ) → Targets
targets_at table m i = listed_at table.targets m i 0 no_targets

-- which tokens take the arguments of a call
abbrev pub takers_at : GraphTable → (m i : ℕ) → List Bool
takers_at table m i = listed_at table.takers m i 0 table.none

-- 1 for a call, 0 for another operation
abbrev pub calls_of : Op → ℕ
calls_of (Call _) = 1
calls_of _ = 0

-- an item without targets for each call of a method
abbrev pub no_targets_of : Method → List (List Targets)
no_targets_of method = map (λ (instr : Instr). replicate (calls_of instr.op) no_targets) method.code

-- an empty set of numbers below n for each call of a method
abbrev pub no_takers_of : (n : ℕ) → Method → List (List (List Bool))
no_takers_of n method = map (λ (instr : Instr). replicate (calls_of instr.op) (no_members n)) method.code

-- the graph of a program in which nothing is reached and no call goes anywhere
abbrev pub empty_graph : Parts → GraphTable
empty_graph p = record {
  reached = map (λ (method : Method). replicate (length method.code) false) p.methods;
  targets = map no_targets_of p.methods;
  takers = map (no_takers_of (token_count p)) p.methods;
  none = no_members (token_count p);
}

-- how many slots a frame of the method has, with those for what was stored and for what is thrown
abbrev pub slot_count : Method → ℕ
slot_count method = method.locals + method.stack + 2

-- how many names there are in the method: the slots, the static fields, and what each parameter and the static fields reached
abbrev pub name_count : Method → ℕ
name_count method = slot_count method + 1 + param_count method + 1

-- how many names can be reached from: the slots and the static fields
abbrev pub live_count : Method → ℕ
live_count method = slot_count method + 1

-- the empty set of pairs of numbers below a bound
abbrev pub no_pairs : ℕ → List (List Bool)
no_pairs n = replicate n (no_members n)

-- the empty sets of pairs of names before the instructions of a method
abbrev pub no_pairs_of : Method → List (List (List Bool))
no_pairs_of method = replicate (length method.code) (no_pairs (name_count method))

-- the empty sets of pairs of names that change before the instructions of a method
abbrev pub no_reach_of : Method → List (List (List Bool))
no_reach_of method = replicate (length method.code) (no_pairs (live_count method))

-- the pairs of a program: none
abbrev pub empty_pairs : Parts → List (List (List (List Bool)))
empty_pairs p = map no_pairs_of p.methods

-- the reachability of a program: none
abbrev pub empty_reach : Parts → List (List (List (List Bool)))
empty_reach p = map no_reach_of p.methods

-- the flags of a method, none of them set
abbrev pub no_effects_of : Method → List Bool
no_effects_of method = replicate (param_count method + 1) false

-- the effects of a program's methods, one flag for each parameter and one for the static fields: none
abbrev pub empty_effects : Parts → List (List Bool)
empty_effects p = map no_effects_of p.methods

-- the effect is in the table
abbrev pub has_effect : List (List Bool) → (m k : ℕ) → Bool
has_effect table m k = slice_index_or (slice_index_or table m []) k false

-- how many fields and bags there are; the bags of a token have as their number the number of fields and the token
abbrev pub cell_count : Parts → ℕ
cell_count p = length p.fields + token_count p

-- what tokens and fields hold
pub record HeldTable : Type 0 where
  pub tokens : List (List Bool)
  pub fields : List (List Bool)

-- nothing is held
abbrev pub empty_held : Parts → HeldTable
empty_held p = record {
  tokens = replicate (token_count p) (no_members (cell_count p));
  fields = replicate (length p.fields) (no_members (cell_count p));
}

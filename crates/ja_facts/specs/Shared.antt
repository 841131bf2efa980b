-- Tables whose items are named by numbers: items that are equal stand once, in a pool.
use Rattle.std.specs.Prelude.{ℕ, zero, suc, ◌+◌, ◌≤◌, List, [], ◌∷◌, length, map, take, drop, replicate, slice_index_or}
use Rattle.ja_ir.specs.declared.method.Method.{Method}
use Rattle.ja_ir.specs.declared.method.Instr.{Instr}
use Rattle.ja_facts.specs.declared.flat.Span.{Span}
use Rattle.ja_facts.specs.ClassTables.{slots_before, throws_before}
use Rattle.ja_facts.specs.FactTables.{calls_of}

-- the item of a name, and another one where the pool has none of this name
abbrev pub named : {A : Type 0} → (pool : List A) → (none : A) → ℕ → A
named pool none name = slice_index_or pool name none

-- the rows of items that rows of names say
abbrev pub named_rows : {A : Type 0} → (pool : List A) → (none : A) → List (List ℕ) → List (List A)
named_rows pool none rows = map (map (named pool none)) rows

-- the same for the rows of each method
abbrev pub named_table : {A : Type 0} → (pool : List A) → (none : A) → List (List (List ℕ)) → List (List (List A))
named_table pool none table = map (named_rows pool none) table

-- what a number says that may be no name: nothing where it is 0, and else the item whose name is one less
abbrev pub option_named : {A : Type 0} → (pool : List A) → (none : A) → ℕ → List A
option_named pool none zero = []
option_named pool none (suc name) = named pool none name ∷ []

-- what rows of such numbers say
abbrev pub option_rows : {A : Type 0} → (pool : List A) → (none : A) → List (List ℕ) → List (List (List A))
option_rows pool none rows = map (map (option_named pool none)) rows

-- the numbers that lie in a piece of a list
abbrev pub in_span : List ℕ → Span → List ℕ
in_span items span = take span.count (drop span.from items)

-- the pieces lie in a list of this length
abbrev pub AreWithin : (size : ℕ) → List Span → Type 0
AreWithin size [] = Unit {0}
AreWithin size (span ∷ spans) = (span.from + span.count ≤ size) × AreWithin size spans

-- name 0 for each slot before each instruction of a method
abbrev pub zero_slots_of : Method → List (List ℕ)
zero_slots_of method = map (λ (instr : Instr). replicate (slots_before method instr) 0) method.code

-- name 0, as a number that may be no name, for each reached instruction of a method that may throw
abbrev pub zero_thrown_of : Method → List ℕ
zero_thrown_of method = map throws_before method.code

-- name 0, as a number that may be no name, for each call of a method
abbrev pub zero_calls_of : Method → List ℕ
zero_calls_of method = map (λ (instr : Instr). calls_of instr.op) method.code

-- for each instruction of each of these methods the number of the method, where the first has number m
abbrev pub method_names : (m : ℕ) → List Method → List (List ℕ)
method_names m [] = []
method_names m (method ∷ methods) = replicate (length method.code) m ∷ method_names (suc m) methods

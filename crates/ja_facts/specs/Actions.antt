-- The methods that the environment runs.
use Rattle.std.specs.Prelude.{◌≡◌, ℕ, true, Some, Contains, slice_get}
use Rattle.ja_ir.specs.declared.program.Parts.{Parts}
use Rattle.ja_ir.specs.declared.method.Method.{Method}
use Rattle.ja_ir.specs.declared.entry.Entry.{Entry}
use Rattle.ja_ir.specs.Lookup.{is_member}
use Rattle.ja_ir.specs.Entries.{constructor_of}
use Rattle.ja_ir.specs.Initializing.{inits_of_class}

-- the environment may run m to initialise the class of an entry: it is a class initialiser of that class or of a program supertype
pub record IsInitializer (p : Parts) (m : ℕ) : Type 0 where
  pub entry : Entry
  pub listed : Contains p.entries entry
  pub initializes : Contains (inits_of_class (slice_get p.classes entry.class.0)) (record { 0 = m })

-- m is the constructor without parameters of class c
abbrev pub IsConstructor : Parts → (c m : ℕ) → Type 0
IsConstructor p c m = constructor_of p c ≡ Some m

-- an entry of the program, and its method
pub record IsEntry (p : Parts) (entry : Entry) (method : Method) : Type 0 where
  pub listed : Contains p.entries entry
  pub found : slice_get p.methods entry.method.0 ≡ Some method

-- an entry whose method has a receiver, so that the environment makes objects of its class
pub record HasObjects (p : Parts) (entry : Entry) : Type 0 where
  pub method : Method
  pub is_entry : IsEntry p entry method
  pub member : is_member method.flags ≡ true

-- m is a method that an action of the environment runs
pub data IsRun (p : Parts) (m : ℕ) : Type 0 where
  runs_initializer : IsInitializer p m → IsRun p m
  runs_constructor : (entry : Entry) → HasObjects p entry → IsConstructor p entry.class.0 m → IsRun p m
  runs_entry : (entry : Entry) (method : Method) → IsEntry p entry method → m ≡ entry.method.0 → IsRun p m

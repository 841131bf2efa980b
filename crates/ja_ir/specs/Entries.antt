-- The constructors that the environment runs beside the entries.
use Rattle.std.specs.Prelude.{◌≡◌, ℕ, ◌<◌, ◌==◌, ◌&&◌, Bool, true, List, Option, Some, codes, bytes_eq, length, nat_lt, slice_get}
use Rattle.std.specs.List.{position_from}
use Rattle.ja_ir.specs.declared.program.Parts.{Parts}
use Rattle.ja_ir.specs.declared.method.Method.{Method}
use Rattle.ja_ir.specs.Lookup.{is_member, HasCode}

-- the method has this name, the descriptor ()V, and code
abbrev pub is_plain : (name : List ℕ) → Method → Bool
is_plain name method = bytes_eq method.name name && (bytes_eq method.desc (codes "()V") && nat_lt 0 (length method.code))

-- the method makes an object of class c ready without arguments
abbrev pub is_constructor : (c : ℕ) → Method → Bool
is_constructor c method = (method.class.0 == c) && (is_member method.flags && is_plain (codes "<init>") method)

-- the constructor without parameters that class c declares
abbrev pub constructor_of : Parts → (c : ℕ) → Option ℕ
constructor_of p c = position_from (is_constructor c) 0 p.methods

-- the same as relations

-- the method has this name, no parameters, no result, and code
pub record IsPlain (name : List ℕ) (method : Method) : Type 0 where
  pub is_name : method.name ≡ name
  pub is_desc : method.desc ≡ codes "()V"
  pub code : HasCode method

-- class c declares the method as a constructor without parameters
pub record Constructs (c : ℕ) (method : Method) : Type 0 where
  pub declared : method.class.0 ≡ c
  pub member : is_member method.flags ≡ true
  pub plain : IsPlain (codes "<init>") method

-- m is the first constructor without parameters that class c declares
pub record IsConstructorOf (p : Parts) (c m : ℕ) : Type 0 where
  pub method : Method
  pub found : slice_get p.methods m ≡ Some method
  pub constructs : Constructs c method
  pub first : (n : ℕ) (other : Method) → n < m → slice_get p.methods n ≡ Some other → Constructs c other → ⊥

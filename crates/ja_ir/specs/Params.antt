-- The parameters of a method, a receiver first where it has one (JVM specification 2.6.1, 4.3.3).
use Rattle.std.specs.Prelude.{◌≡◌, ℕ, zero, suc, ◌+◌, Bool, true, false, List, [], ◌∷◌, Option, Some, None, slice_get}
use Rattle.ja_base.specs.declared.java_type.Kind.{Kind}
use Rattle.ja_base.specs.declared.java_type.Kind.TheVariants.{R, T}
use Rattle.ja_base.specs.declared.java_type.JavaType.{JavaType}
use Rattle.ja_base.specs.Kind.{words_of}
use Rattle.ja_ir.specs.declared.method.Method.{Method}
use Rattle.ja_ir.specs.Lookup.{is_member}
use Rattle.ja_ir.specs.Operations.{count_of}

-- the types of the parameters of a method, without a receiver
abbrev pub param_types : Method → List JavaType
param_types method = method.types.params

-- how many words the first so many of these types take
abbrev pub words_before : List JavaType → ℕ → ℕ
words_before types zero = 0
words_before [] (suc k) = 0
words_before (type ∷ types) (suc k) = words_of type.kind + words_before types k

-- the first local of parameter k among a receiver, which is parameter 0, and these types (JVM specification 2.6.1)
abbrev pub local_among : (receiver : Bool) → List JavaType → (k : ℕ) → ℕ
local_among true types zero = 0
local_among true types (suc k) = 1 + words_before types k
local_among false types k = words_before types k

-- the first local of parameter k of a method
abbrev pub param_local : Method → (k : ℕ) → ℕ
param_local method k = local_among (is_member method.flags) (param_types method) k

-- the number of these parameters and a receiver
abbrev pub params_among : (receiver : Bool) → List JavaType → ℕ
params_among receiver [] = count_of receiver
params_among receiver (type ∷ types) = suc (params_among receiver types)

-- the number of parameters of a method, a receiver among them
abbrev pub param_count : Method → ℕ
param_count method = params_among (is_member method.flags) (param_types method)

-- the kind of a type, if there is one
abbrev pub kind_of : Option JavaType → Kind
kind_of None = T
kind_of (Some type) = type.kind

-- the kind of parameter k among a receiver, which is a reference, and these types
abbrev pub kind_among : (receiver : Bool) → List JavaType → (k : ℕ) → Kind
kind_among true types zero = R
kind_among true types (suc k) = kind_of (slice_get types k)
kind_among false types k = kind_of (slice_get types k)

-- parameter k of the method is a reference; a receiver is one
abbrev pub IsReferenceParam : Method → (k : ℕ) → Type 0
IsReferenceParam method k = kind_among (is_member method.flags) (param_types method) k ≡ R

-- the type of parameter k among a receiver, which has none, and these types
abbrev pub type_among : (receiver : Bool) → List JavaType → (k : ℕ) → Option JavaType
type_among true types zero = None
type_among true types (suc k) = slice_get types k
type_among false types k = slice_get types k

-- parameter k of the method has this type in its descriptor
abbrev pub HasParam : Method → (k : ℕ) → JavaType → Type 0
HasParam method k type = type_among (is_member method.flags) (param_types method) k ≡ Some type

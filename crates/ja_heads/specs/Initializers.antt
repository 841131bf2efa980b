-- The class initialisers of classes.
use Rattle.std.specs.Prelude.{ℕ, suc, Bool, List, [], ◌∷◌, ◌++◌, codes, slice_get, sum_by, take, if◌then◌else◌}
use Rattle.ja_base.specs.declared.id.MethodId.{MethodId}
use Rattle.ja_ir.specs.declared.head.ClassHead.{ClassHead}
use Rattle.ja_ir.specs.declared.head.HeadMethod.{HeadMethod}
use Rattle.ja_hier.specs.declared.starts.Member.TheVariants.{Method}
use Rattle.ja_hier.specs.LookUps.{methods_of}
use Rattle.ja_hier.specs.Members.{count_of}
use Rattle.ja_heads.specs.Entries.{is_entry_point}

-- the method is a class initialiser: it is static, has this name, this descriptor and code (JVM specification 2.9)
abbrev pub is_initializer : HeadMethod → Bool
is_initializer method = is_entry_point (codes "<clinit>") (codes "()V") method

-- the class initialisers among these methods, the first of which has this number
abbrev pub initializers_from : (first : ℕ) → List HeadMethod → List MethodId
initializers_from first [] = []
initializers_from first (method ∷ methods) = (if is_initializer method then (record { 0 = first }) ∷ [] else []) ++ initializers_from (suc first) methods

-- the class initialisers that class c declares
abbrev pub initializers_in : List ClassHead → (c : ℕ) → List MethodId
initializers_in heads c = initializers_from (sum_by (count_of Method) (take c heads)) (methods_of (slice_get heads c))

-- the class initialisers that these classes declare, one class after another
abbrev pub initializers_of : List ClassHead → (classes : List ℕ) → List MethodId
initializers_of heads [] = []
initializers_of heads (c ∷ classes) = initializers_in heads c ++ initializers_of heads classes

-- Small programs, for examples.
use Rattle.std.specs.Prelude.{◌≡◌, ℕ, true, false, List, [], ◌∷◌, None, codes}
use Rattle.ja_base.specs.declared.id.ClassId.{ClassId}
use Rattle.ja_base.specs.declared.java_type.Kind.TheVariants.{P1, P2, R}
use Rattle.ja_base.specs.declared.java_type.JavaType.{JavaType}
use Rattle.ja_base.specs.declared.java_type.Desc.{Desc}
use Rattle.ja_ir.specs.declared.program.Parts.{Parts}
use Rattle.ja_ir.specs.declared.class.ClassInfo.{ClassInfo}
use Rattle.ja_ir.specs.declared.class.Selection.{Selection}
use Rattle.ja_ir.specs.declared.class.MethodAt.{MethodAt}
use Rattle.ja_ir.specs.declared.class.MethodAt.TheVariants.{Program, Abstract, Library}
use Rattle.ja_ir.specs.declared.method.Method.{Method}
use Rattle.ja_ir.specs.declared.method.Instr.{Instr}
use Rattle.ja_ir.specs.declared.method.Handler.{Handler}
use Rattle.ja_ir.specs.declared.method.Catch.{Catch}
use Rattle.ja_ir.specs.declared.method.Catch.TheVariants.{All as Everything, Program as InClass, Library as InLibrary}
use Rattle.ja_ir.specs.declared.op.Op.{Op}
use Rattle.ja_ir.specs.declared.op.Op.TheVariants.{Nop, Return}
use Rattle.ja_ir.specs.Lookup.{select}
use Rattle.ja_ir.specs.Handlers.{Inside, Outside, dest}
use Rattle.ja_ir.specs.Tokens.{fits, names_program, absorbs, fresh_tokens}

-- a class of this name with these classes at or above it
abbrev pub class : (name : List ℕ) (flags : ℕ) (supers : List ℕ) (selections : List Selection) → ClassInfo
class name flags supers selections = record { name = name; file = name; flags = flags; absorbing = false; supers = ids supers; selections = selections; inits = [] }
  where
    ids : List ℕ → List ClassId
    ids [] = []
    ids (c ∷ cs) = record { 0 = c } ∷ ids cs

-- neither parameters nor a result
abbrev pub no_types : Desc
no_types = record { params = []; result = None; words = 0 }

-- a method of class c without parameters and result
abbrev pub method : (c : ℕ) (name : List ℕ) (flags locals stack : ℕ) (code : List Instr) (handlers : List Handler) → Method
method c name flags locals stack code handlers =
    record { class = record { 0 = c }; name = name; desc = codes "()V"; types = no_types; flags = flags; locals = locals; stack = stack; code = code; handlers = handlers }

-- an instruction that is reached
abbrev pub at : (i : ℕ) (op : Op) (next : List ℕ) (height : ℕ) → Instr
at i op next height = record { pc = i; op = op; next = next; height = height; reached = true }

-- a reference type
abbrev pub named : (name : List ℕ) → JavaType
named name = record { kind = R; name = name }

-- a class A, its subclass B, which has a method m and inherits an abstract n, and five handlers over the first instruction of a method.
-- Token 0 is A, 1 is B, 2 a text, 3 a library object, 4 an array of references and 5 an array of primitives
abbrev pub pair : Parts
pair = record {
  classes = class (codes "A") 0x0421 (0 ∷ []) [] ∷ class (codes "B") 0x0021 (0 ∷ 1 ∷ []) (selects (codes "m") (Program (record { 0 = 0 })) ∷ selects (codes "n") (Abstract (record { 0 = 1 })) ∷ []) ∷ [];
  methods =
      method 1 (codes "m") 0x0001 1 0 (at 0 Nop (1 ∷ []) 0 ∷ at 1 (Return None) [] 0 ∷ [])
      (over (InClass (record { 0 = 1 })) 10 ∷ over InLibrary 20 ∷ over (InClass (record { 0 = 0 })) 30 ∷ over Everything 40 ∷ over Everything 50 ∷ [])
      ∷ method 0 (codes "n") 0x0401 0 0 [] []
      ∷ [];
  fields = [];
  entries = [];
  sites = [];
  categories = [];
}
  where
    selects : List ℕ → MethodAt → Selection
    selects name target = record { name = name; desc = codes "()V"; target = target }

    over : Catch → ℕ → Handler
    over catch target = record { start = 0; end = 1; target = target; catch = catch }

-- a class whose name is empty
abbrev pub nameless : Parts
nameless = record {
  classes = class [] 0x0021 (0 ∷ []) [] ∷ [];
  methods = [];
  fields = [];
  entries = [];
  sites = [];
  categories = [];
}

-- no class at all
abbrev pub without_classes : Parts
without_classes = record nameless { classes = [] }

-- which tokens fit which types
pub record TokensFit : Type 0 where
  pub class_itself : fits pair 0 (codes "A") ≡ true
  pub subclass : fits pair 1 (codes "A") ≡ true
  pub superclass : fits pair 0 (codes "B") ≡ false
  pub library_object_in_program_class : fits pair 3 (codes "A") ≡ false
  pub text : fits pair 2 (codes "java/lang/String") ≡ true
  pub library_object_as_text : fits pair 3 (codes "java/lang/String") ≡ true
  pub array_as_text : fits pair 4 (codes "java/lang/String") ≡ false
  pub numbers : fits pair 5 (codes "[I") ≡ true
  pub rows_of_numbers : fits pair 4 (codes "[[I") ≡ true
  pub numbers_as_rows : fits pair 5 (codes "[[I") ≡ false
  pub objects_as_numbers : fits pair 4 (codes "[I") ≡ false
  pub other_class : fits pair 0 (codes "java/util/List") ≡ true
  pub texts_do_not_absorb : absorbs pair 2 ≡ false
  pub library_objects_absorb : absorbs pair 3 ≡ true
  pub program_objects_do_not_absorb : absorbs pair 0 ≡ false
  pub empty_name_of_a_class : fits nameless 0 [] ≡ true
  pub text_in_class_of_empty_name : fits nameless 1 [] ≡ false
  pub empty_name_is_named : names_program nameless [] ≡ true
  pub empty_name_elsewhere : names_program without_classes [] ≡ false

-- which tokens are made new for which types
pub record TokensAreMade : Type 0 where
  pub of_number : fresh_tokens pair (record { kind = P1; name = codes "I" }) ≡ []
  pub of_program_class : fresh_tokens pair (named (codes "A")) ≡ []
  pub of_text : fresh_tokens pair (named (codes "java/lang/String")) ≡ 2 ∷ []
  pub of_texts : fresh_tokens pair (named (codes "[Ljava/lang/String;")) ≡ 4 ∷ 2 ∷ []
  pub of_rows_of_numbers : fresh_tokens pair (named (codes "[[I")) ≡ 4 ∷ 5 ∷ []
  pub of_program_objects : fresh_tokens pair (named (codes "[LA;")) ≡ 4 ∷ []
  pub of_class_of_empty_name : fresh_tokens nameless (named []) ≡ []
  pub of_object : fresh_tokens pair (named (codes "java/lang/Object")) ≡ 3 ∷ 5 ∷ 4 ∷ 3 ∷ []
  pub of_other_class : fresh_tokens pair (named (codes "java/util/List")) ≡ 3 ∷ []

-- where exceptions go, and what calls select
pub record LookUpsAnswer : Type 0 where
  pub of_subclass : dest pair 0 0 1 ≡ Inside 10 ∷ []
  pub of_class : dest pair 0 0 0 ≡ Inside 20 ∷ Inside 30 ∷ []
  pub of_library : dest pair 0 0 3 ≡ Inside 20 ∷ Inside 40 ∷ []
  pub past_the_range : dest pair 0 1 1 ≡ Outside ∷ []
  pub method_with_code : select pair 1 (codes "m") (codes "()V") ≡ Program (record { 0 = 0 })
  pub method_without_code : select pair 1 (codes "n") (codes "()V") ≡ Abstract (record { 0 = 1 })
  pub other_method : select pair 1 (codes "m") (codes "(I)V") ≡ Library

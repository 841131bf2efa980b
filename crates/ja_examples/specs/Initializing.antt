-- Programs with a class initialiser. In the first, main reads a field of K, so that K may be initialised, and then a field of its own class A,
-- which K's initialiser fills with a tainted text; it passes what it read to a sink. In the second, nothing names K. In the third, K's
-- initialiser throws. Token 0 is A, 1 is K, 2 a text, 3 a library object, 4 an array of references and 5 an array of primitives.
use Rattle.std.specs.Prelude.{ℕ, true, false, List, [], ◌∷◌, None, codes}
use Rattle.ja_base.specs.declared.java_type.Kind.TheVariants.{R}
use Rattle.ja_ir.specs.declared.program.Parts.{Parts}
use Rattle.ja_ir.specs.declared.class.ClassInfo.{ClassInfo}
use Rattle.ja_ir.specs.declared.class.Field.{Field}
use Rattle.ja_ir.specs.declared.method.Method.{Method}
use Rattle.ja_ir.specs.declared.method.Instr.{Instr}
use Rattle.ja_ir.specs.declared.entry.Entry.{Entry}
use Rattle.ja_ir.specs.declared.entry.Site.{Site}
use Rattle.ja_ir.specs.declared.op.Op.TheVariants.{Const, GetStatic, PutStatic, Shuffle, Call, Throw, Return}
use Rattle.ja_ir.specs.Examples.{class, method, at}
use Rattle.ja_examples.specs.Library.{source, sink}

-- main, which reads a field of K and then the field that it passes on
abbrev pub naming_main : Method
naming_main =
    method 0 (codes "main") 0x0009 0 1
    (at 0 (GetStatic (record { 0 = 1 })) (1 ∷ []) 0 ∷ at 1 (Shuffle 1 []) (2 ∷ []) 1 ∷ at 2 (GetStatic (record { 0 = 0 })) (3 ∷ []) 0
    ∷ at 3 (Call sink) (4 ∷ []) 1 ∷ at 4 (Return None) [] 0 ∷ []) []

-- main without the read of K's field
abbrev pub plain_main : Method
plain_main =
    method 0 (codes "main") 0x0009 0 1
    (at 0 (GetStatic (record { 0 = 0 })) (1 ∷ []) 0 ∷ at 1 (Call sink) (2 ∷ []) 1 ∷ at 2 (Return None) [] 0 ∷ []) []

-- a class initialiser of K with this code
abbrev pub initializer : (code : List Instr) → Method
initializer code = method 1 (codes "<clinit>") 0x0008 0 1 code []

-- one that puts a tainted text into A's field
abbrev pub filling : Method
filling = initializer (at 0 (Call source) (1 ∷ []) 0 ∷ at 1 (PutStatic (record { 0 = 0 })) (2 ∷ []) 1 ∷ at 2 (Return None) [] 0 ∷ [])

-- one that throws
abbrev pub throwing_up : Method
throwing_up = initializer (at 0 (Const R) (1 ∷ []) 0 ∷ at 1 Throw [] 1 ∷ [])

-- A, which has no class initialiser
abbrev pub class_a : ClassInfo
class_a = class (codes "A") 0x0021 (0 ∷ []) []

-- K, which has one
abbrev pub class_k : ClassInfo
class_k = record (class (codes "K") 0x0021 (1 ∷ []) []) { inits = record { 0 = 1 } ∷ [] }

-- the field f of A and the field w of K
abbrev pub static_fields : List Field
static_fields =
    record { class = record { 0 = 0 }; name = codes "f"; desc = codes "Ljava/lang/String;"; flags = 0x0009; text = false }
    ∷ record { class = record { 0 = 1 }; name = codes "w"; desc = codes "I"; flags = 0x0009; text = false }
    ∷ []

-- main is called by the environment
abbrev pub main_entry : Entry
main_entry = record { class = record { 0 = 0 }; method = record { 0 = 0 }; marked = []; marks = true ∷ [] }

-- the sink call at an instruction of main
abbrev pub main_site : (i : ℕ) → Site
main_site i = record { method = record { 0 = 0 }; index = i; positions = 0 ∷ []; target = codes "demo/Taint.sink(Ljava/lang/String;)V"; category = 0 }

-- the program with this main, whose sink call is at this instruction, and this initialiser of K
abbrev pub program_of : (main : Method) → (i : ℕ) → (clinit : Method) → Parts
program_of main i clinit = record {
  classes = class_a ∷ class_k ∷ [];
  methods = main ∷ clinit ∷ [];
  fields = static_fields;
  entries = main_entry ∷ [];
  sites = main_site i ∷ [];
  categories = [];
}

-- the three programs
abbrev pub initializing : Parts
initializing = program_of naming_main 3 filling

abbrev pub resting : Parts
resting = program_of plain_main 1 filling

abbrev pub failing : Parts
failing = program_of naming_main 3 throwing_up

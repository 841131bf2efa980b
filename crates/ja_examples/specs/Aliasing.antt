-- A program in which a class initialiser taints an object that main has, too: main makes an object of B, puts it into a static field of its own
-- class A, and reads a field of K, whose initialiser puts a tainted text into the object that A's field refers to. Main then passes the
-- object's text to a sink. Token 0 is A, 1 is B and 2 is K.
use Rattle.std.specs.Prelude.{false, List, [], ◌∷◌, None, codes}
use Rattle.ja_base.specs.declared.java_type.Kind.TheVariants.{R}
use Rattle.ja_ir.specs.declared.program.Parts.{Parts}
use Rattle.ja_ir.specs.declared.class.ClassInfo.{ClassInfo}
use Rattle.ja_ir.specs.declared.class.Field.{Field}
use Rattle.ja_ir.specs.declared.method.Method.{Method}
use Rattle.ja_ir.specs.declared.op.Op.TheVariants.{New, Load, Store, GetStatic, PutStatic, GetField, PutField, Shuffle, Call, Return}
use Rattle.ja_ir.specs.Examples.{class, method, at}
use Rattle.ja_examples.specs.Library.{source, sink}
use Rattle.ja_examples.specs.Initializing.{main_entry, main_site}

-- main: local 0 is the object
abbrev pub aliasing_main : Method
aliasing_main =
    method 0 (codes "main") 0x0009 1 1
    (at 0 (New (record { 0 = 1 })) (1 ∷ []) 0 ∷ at 1 (Store R 0) (2 ∷ []) 1 ∷ at 2 (Load R 0) (3 ∷ []) 0
    ∷ at 3 (PutStatic (record { 0 = 0 })) (4 ∷ []) 1 ∷ at 4 (GetStatic (record { 0 = 2 })) (5 ∷ []) 0 ∷ at 5 (Shuffle 1 []) (6 ∷ []) 1
    ∷ at 6 (Load R 0) (7 ∷ []) 0 ∷ at 7 (GetField (record { 0 = 1 })) (8 ∷ []) 1 ∷ at 8 (Call sink) (9 ∷ []) 1 ∷ at 9 (Return None) [] 0 ∷ []) []

-- the class initialiser of K
abbrev pub aliasing_initializer : Method
aliasing_initializer =
    method 2 (codes "<clinit>") 0x0008 0 2
    (at 0 (GetStatic (record { 0 = 0 })) (1 ∷ []) 0 ∷ at 1 (Call source) (2 ∷ []) 1 ∷ at 2 (PutField (record { 0 = 1 })) (3 ∷ []) 2
    ∷ at 3 (Return None) [] 0 ∷ []) []

-- the three classes
abbrev pub aliasing_classes : List ClassInfo
aliasing_classes =
    class (codes "A") 0x0021 (0 ∷ []) [] ∷ class (codes "B") 0x0021 (1 ∷ []) []
    ∷ record (class (codes "K") 0x0021 (2 ∷ []) []) { inits = record { 0 = 1 } ∷ [] } ∷ []

-- the field h of A, s of B and w of K
abbrev pub aliasing_fields : List Field
aliasing_fields =
    record { class = record { 0 = 0 }; name = codes "h"; desc = codes "LB;"; flags = 0x0008; text = false }
    ∷ record { class = record { 0 = 1 }; name = codes "s"; desc = codes "Ljava/lang/String;"; flags = 0x0000; text = false }
    ∷ record { class = record { 0 = 2 }; name = codes "w"; desc = codes "I"; flags = 0x0008; text = false }
    ∷ []

-- the program
abbrev pub aliasing : Parts
aliasing = record {
  classes = aliasing_classes;
  methods = aliasing_main ∷ aliasing_initializer ∷ [];
  fields = aliasing_fields;
  entries = main_entry ∷ [];
  sites = main_site 8 ∷ [];
  categories = [];
}

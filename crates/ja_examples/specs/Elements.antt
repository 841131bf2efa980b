-- A program in which taint comes through an array: main stores a tainted text into an array, reads an element of it, and passes that to a
-- sink. Token 0 is the class A, 1 a text, 2 a library object, 3 an array of references and 4 an array of primitives.
use Rattle.std.specs.Prelude.{true, [], ◌∷◌, None, codes}
use Rattle.ja_base.specs.declared.java_type.Kind.TheVariants.{P1, R}
use Rattle.ja_ir.specs.declared.program.Parts.{Parts}
use Rattle.ja_ir.specs.declared.method.Method.{Method}
use Rattle.ja_ir.specs.declared.entry.Entry.{Entry}
use Rattle.ja_ir.specs.declared.entry.Site.{Site}
use Rattle.ja_ir.specs.declared.op.Op.TheVariants.{Const, Load, Store, NewArray, ArrStore, ArrLoad, Call, Return}
use Rattle.ja_ir.specs.Examples.{class, method, at}
use Rattle.ja_examples.specs.Library.{source, sink}

-- main: local 0 is the array
abbrev pub elements_main : Method
elements_main =
    method 0 (codes "main") 0x0009 1 3
    (at 0 (Const P1) (1 ∷ []) 0 ∷ at 1 (NewArray (record { 0 = 3 }) 1) (2 ∷ []) 1 ∷ at 2 (Store R 0) (3 ∷ []) 1
    ∷ at 3 (Load R 0) (4 ∷ []) 0 ∷ at 4 (Const P1) (5 ∷ []) 1 ∷ at 5 (Call source) (6 ∷ []) 2 ∷ at 6 (ArrStore R) (7 ∷ []) 3
    ∷ at 7 (Load R 0) (8 ∷ []) 0 ∷ at 8 (Const P1) (9 ∷ []) 1 ∷ at 9 (ArrLoad R) (10 ∷ []) 2 ∷ at 10 (Call sink) (11 ∷ []) 1 ∷ at 11 (Return None) [] 0 ∷ []) []

-- main is called by the environment
abbrev pub elements_entry : Entry
elements_entry = record { class = record { 0 = 0 }; method = record { 0 = 0 }; marked = []; marks = true ∷ [] }

-- the sink call
abbrev pub element_site : Site
element_site = record { method = record { 0 = 0 }; index = 10; positions = 0 ∷ []; target = codes "demo/Taint.sink(Ljava/lang/String;)V"; category = 0 }

-- the program
abbrev pub elements : Parts
elements = record {
  classes = class (codes "A") 0x0021 (0 ∷ []) [] ∷ [];
  methods = elements_main ∷ [];
  fields = [];
  entries = elements_entry ∷ [];
  sites = element_site ∷ [];
  categories = [];
}

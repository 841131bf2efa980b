-- A program in which taint comes through a bag and an alias: main stores a clean builder into a field, appends a tainted text to the
-- builder by its local, reads the builder from the field, and passes its text to a sink. Token 0 is the class C, 1 a text, 2 a library
-- object, 3 an array of references and 4 an array of primitives.
use Rattle.std.specs.Prelude.{true, false, [], ◌∷◌, None, codes}
use Rattle.ja_base.specs.declared.java_type.Kind.TheVariants.{R}
use Rattle.ja_ir.specs.declared.program.Parts.{Parts}
use Rattle.ja_ir.specs.declared.method.Method.{Method}
use Rattle.ja_ir.specs.declared.entry.Entry.{Entry}
use Rattle.ja_ir.specs.declared.entry.Site.{Site}
use Rattle.ja_ir.specs.declared.op.Op.TheVariants.{New, Load, Store, GetField, PutField, Shuffle, Call, Return}
use Rattle.ja_ir.specs.Examples.{class, method, at}
use Rattle.ja_examples.specs.Library.{source, append, to_text, sink}

-- main is called by the environment
abbrev pub building_entry : Entry
building_entry = record { class = record { 0 = 0 }; method = record { 0 = 0 }; marked = []; marks = true ∷ [] }

-- the sink call
abbrev pub built_site : Site
built_site = record { method = record { 0 = 0 }; index = 14; positions = 0 ∷ []; target = codes "demo/Taint.sink(Ljava/lang/String;)V"; category = 0 }

-- main: local 0 is the object with the field, and local 1 the builder
abbrev pub building_main : Method
building_main =
    method 0 (codes "main") 0x0009 2 2
    (at 0 (New (record { 0 = 0 })) (1 ∷ []) 0 ∷ at 1 (Store R 0) (2 ∷ []) 1 ∷ at 2 (New (record { 0 = 2 })) (3 ∷ []) 0 ∷ at 3 (Store R 1) (4 ∷ []) 1
    ∷ at 4 (Load R 0) (5 ∷ []) 0 ∷ at 5 (Load R 1) (6 ∷ []) 1 ∷ at 6 (PutField (record { 0 = 0 })) (7 ∷ []) 2
    ∷ at 7 (Load R 1) (8 ∷ []) 0 ∷ at 8 (Call source) (9 ∷ []) 1 ∷ at 9 (Call append) (10 ∷ []) 2 ∷ at 10 (Shuffle 1 []) (11 ∷ []) 1
    ∷ at 11 (Load R 0) (12 ∷ []) 0 ∷ at 12 (GetField (record { 0 = 0 })) (13 ∷ []) 1 ∷ at 13 (Call to_text) (14 ∷ []) 1
    ∷ at 14 (Call sink) (15 ∷ []) 1 ∷ at 15 (Return None) [] 0 ∷ []) []

-- the program
abbrev pub building : Parts
building = record {
  classes = class (codes "C") 0x0021 (0 ∷ []) [] ∷ [];
  methods = building_main ∷ [];
  fields = record { class = record { 0 = 0 }; name = codes "s"; desc = codes "Ljava/lang/StringBuilder;"; flags = 0; text = false } ∷ [];
  entries = building_entry ∷ [];
  sites = built_site ∷ [];
  categories = [];
}

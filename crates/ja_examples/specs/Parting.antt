-- A program with a clean sink: main puts a tainted text into one field of an object, a constant text into another, and passes what the
-- second has to the sink. Token 0 is the class B, 1 a text, 2 a library object, 3 an array of references and 4 an array of primitives.
use Rattle.std.specs.Prelude.{true, false, List, [], ◌∷◌, None, codes}
use Rattle.ja_ir.specs.declared.program.Parts.{Parts}
use Rattle.ja_ir.specs.declared.class.Field.{Field}
use Rattle.ja_ir.specs.declared.method.Method.{Method}
use Rattle.ja_ir.specs.declared.entry.Entry.{Entry}
use Rattle.ja_ir.specs.declared.entry.Site.{Site}
use Rattle.ja_ir.specs.declared.op.Op.TheVariants.{Text, New, GetField, PutField, Shuffle, Call, Return}
use Rattle.ja_ir.specs.Examples.{class, method, at}
use Rattle.ja_examples.specs.Library.{source, sink}

-- main
abbrev pub parting_main : Method
parting_main =
    method 0 (codes "main") 0x0009 0 3
    (at 0 (New (record { 0 = 0 })) (1 ∷ []) 0 ∷ at 1 (Shuffle 1 (0 ∷ 0 ∷ [])) (2 ∷ []) 1 ∷ at 2 (Call source) (3 ∷ []) 2
    ∷ at 3 (PutField (record { 0 = 0 })) (4 ∷ []) 3 ∷ at 4 (Shuffle 1 (0 ∷ 0 ∷ [])) (5 ∷ []) 1 ∷ at 5 Text (6 ∷ []) 2
    ∷ at 6 (PutField (record { 0 = 1 })) (7 ∷ []) 3 ∷ at 7 (GetField (record { 0 = 1 })) (8 ∷ []) 1 ∷ at 8 (Call sink) (9 ∷ []) 1 ∷ at 9 (Return None) [] 0 ∷ []) []

-- main is called by the environment
abbrev pub parting_entry : Entry
parting_entry = record { class = record { 0 = 0 }; method = record { 0 = 0 }; marked = []; marks = true ∷ [] }

-- the sink call
abbrev pub parted_site : Site
parted_site = record { method = record { 0 = 0 }; index = 8; positions = 0 ∷ []; target = codes "demo/Taint.sink(Ljava/lang/String;)V"; category = 0 }

-- the fields a, which takes the tainted text, and b
abbrev pub two_fields : List Field
two_fields =
    record { class = record { 0 = 0 }; name = codes "a"; desc = codes "Ljava/lang/String;"; flags = 0; text = false }
    ∷ record { class = record { 0 = 0 }; name = codes "b"; desc = codes "Ljava/lang/String;"; flags = 0; text = false }
    ∷ []

-- the program
abbrev pub parting : Parts
parting = record {
  classes = class (codes "B") 0x0021 (0 ∷ []) [] ∷ [];
  methods = parting_main ∷ [];
  fields = two_fields;
  entries = parting_entry ∷ [];
  sites = parted_site ∷ [];
  categories = [];
}

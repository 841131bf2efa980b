-- A program in which a later entry reads what an earlier one stored: the first entry appends a tainted text to the builder that it is given,
-- the second passes the text of the builder that it is given to a sink. A third entry takes a text, and its position is marked. Token 0 is
-- the class E, 1 a text, 2 a library object, 3 an array of references and 4 an array of primitives.
use Rattle.std.specs.Prelude.{true, [], ◌∷◌, None, codes}
use Rattle.ja_base.specs.declared.java_type.Kind.TheVariants.{R}
use Rattle.ja_ir.specs.declared.program.Parts.{Parts}
use Rattle.ja_ir.specs.declared.method.Method.{Method}
use Rattle.ja_ir.specs.declared.entry.Entry.{Entry}
use Rattle.ja_ir.specs.declared.entry.Site.{Site}
use Rattle.ja_ir.specs.declared.op.Op.TheVariants.{Load, Shuffle, Call, Return}
use Rattle.ja_ir.specs.Examples.{class, method, at}
use Rattle.ja_examples.specs.Library.{string, builder, typed, takes, source, append, to_text, sink}

-- the method that appends a tainted text to its parameter
abbrev pub entering_put : Method
entering_put =
    typed (codes "(Ljava/lang/StringBuilder;)V") (takes builder)
    (method 0 (codes "put") 0x0009 1 2
    (at 0 (Load R 0) (1 ∷ []) 0 ∷ at 1 (Call source) (2 ∷ []) 1 ∷ at 2 (Call append) (3 ∷ []) 2 ∷ at 3 (Shuffle 1 []) (4 ∷ []) 1 ∷ at 4 (Return None) [] 0 ∷ []) [])

-- the method that passes the text of its parameter to the sink
abbrev pub entering_get : Method
entering_get =
    typed (codes "(Ljava/lang/StringBuilder;)V") (takes builder)
    (method 0 (codes "get") 0x0009 1 1
    (at 0 (Load R 0) (1 ∷ []) 0 ∷ at 1 (Call to_text) (2 ∷ []) 1 ∷ at 2 (Call sink) (3 ∷ []) 1 ∷ at 3 (Return None) [] 0 ∷ []) [])

-- a method that does nothing with its parameter
abbrev pub entering_take : Method
entering_take = typed (codes "(Ljava/lang/String;)V") (takes string) (method 0 (codes "take") 0x0009 1 0 (at 0 (Return None) [] 0 ∷ []) [])

-- the first entry
abbrev pub put_entry : Entry
put_entry = record { class = record { 0 = 0 }; method = record { 0 = 0 }; marked = []; marks = true ∷ [] }

-- the second entry
abbrev pub get_entry : Entry
get_entry = record { class = record { 0 = 0 }; method = record { 0 = 1 }; marked = []; marks = true ∷ [] }

-- the third entry
abbrev pub take_entry : Entry
take_entry = record { class = record { 0 = 0 }; method = record { 0 = 2 }; marked = 0 ∷ []; marks = true ∷ [] }

-- the sink call
abbrev pub entered_site : Site
entered_site = record { method = record { 0 = 1 }; index = 2; positions = 0 ∷ []; target = codes "demo/Taint.sink(Ljava/lang/String;)V"; category = 0 }

-- the program
abbrev pub entering : Parts
entering = record {
  classes = class (codes "E") 0x0021 (0 ∷ []) [] ∷ [];
  methods = entering_put ∷ entering_get ∷ entering_take ∷ [];
  fields = [];
  entries = put_entry ∷ get_entry ∷ take_entry ∷ [];
  sites = entered_site ∷ [];
  categories = [];
}

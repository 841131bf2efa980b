-- A program with two categories of marks: main passes a text that is marked for pages alone to a sink for SQL and to one for pages.
use Rattle.std.specs.Prelude.{ℕ, true, false, List, [], ◌∷◌, None, codes}
use Rattle.ja_ir.specs.declared.program.Parts.{Parts}
use Rattle.ja_ir.specs.declared.method.Method.{Method}
use Rattle.ja_ir.specs.declared.entry.Entry.{Entry}
use Rattle.ja_ir.specs.declared.entry.Site.{Site}
use Rattle.ja_ir.specs.declared.row.RowFlow.TheVariants.{Always, Never}
use Rattle.ja_ir.specs.declared.row.RowEffect.TheVariants.{Quiet}
use Rattle.ja_ir.specs.declared.row.RowResult.TheVariants.{Fresh}
use Rattle.ja_ir.specs.declared.op.CallOp.{CallOp}
use Rattle.ja_ir.specs.declared.op.Op.TheVariants.{Shuffle, Call, Return}
use Rattle.ja_ir.specs.Examples.{class, method, at}
use Rattle.ja_examples.specs.Library.{source, sink}

-- a source of texts that are marked for pages alone
abbrev pub page_source : CallOp
page_source = record source { row = record { flow = Always; effect = Quiet; result = Fresh; sinks = []; marks = false ∷ true ∷ []; category = 0 } }

-- a sink of category c
abbrev pub sink_of : (c : ℕ) → CallOp
sink_of c = record sink { row = record { flow = Never; effect = Quiet; result = Fresh; sinks = 0 ∷ []; marks = true ∷ true ∷ []; category = c } }

-- main
abbrev pub labelling_main : Method
labelling_main =
    method 0 (codes "main") 0x0009 0 2
    (at 0 (Call page_source) (1 ∷ []) 0 ∷ at 1 (Shuffle 1 (0 ∷ 0 ∷ [])) (2 ∷ []) 1 ∷ at 2 (Call (sink_of 0)) (3 ∷ []) 2
    ∷ at 3 (Call (sink_of 1)) (4 ∷ []) 1 ∷ at 4 (Return None) [] 0 ∷ []) []

-- main is called by the environment
abbrev pub labelling_entry : Entry
labelling_entry = record { class = record { 0 = 0 }; method = record { 0 = 0 }; marked = []; marks = true ∷ true ∷ [] }

-- the sink call of a category at an instruction
abbrev pub labelled_site : (i c : ℕ) → Site
labelled_site i c = record { method = record { 0 = 0 }; index = i; positions = 0 ∷ []; target = codes "demo/Taint.sink(Ljava/lang/String;)V"; category = c }

-- the program
abbrev pub labelling : Parts
labelling = record {
  classes = class (codes "A") 0x0021 (0 ∷ []) [] ∷ [];
  methods = labelling_main ∷ [];
  fields = [];
  entries = labelling_entry ∷ [];
  sites = labelled_site 2 0 ∷ labelled_site 3 1 ∷ [];
  categories = codes "sql" ∷ codes "page" ∷ [];
}

-- its report
abbrev pub labelling_report : List ℕ
labelling_report = codes "julia 2\nclasses 1\nentries 1\nsinks 2\nclean A.main()V 2 demo/Taint.sink(Ljava/lang/String;)V in sql\nwarned A.main()V 3 demo/Taint.sink(Ljava/lang/String;)V in page\ntotal warned 1 clean 1\n"

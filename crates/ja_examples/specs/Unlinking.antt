-- A program in which a method changes what it was given: f puts a tainted text into the node after its argument, and unlinks that node.
-- Main links two nodes, calls f with the first, and passes the text of the second to a sink.
use Rattle.std.specs.Prelude.{true, false, List, [], ◌∷◌, Some, None, codes}
use Rattle.ja_base.specs.declared.java_type.Kind.TheVariants.{R}
use Rattle.ja_ir.specs.declared.program.Parts.{Parts}
use Rattle.ja_ir.specs.declared.class.MethodAt.TheVariants.{Program}
use Rattle.ja_ir.specs.declared.class.Field.{Field}
use Rattle.ja_ir.specs.declared.method.Method.{Method}
use Rattle.ja_ir.specs.declared.entry.Entry.{Entry}
use Rattle.ja_ir.specs.declared.entry.Site.{Site}
use Rattle.ja_ir.specs.declared.row.RowFlow.TheVariants.{Args}
use Rattle.ja_ir.specs.declared.row.RowEffect.TheVariants.{Quiet}
use Rattle.ja_ir.specs.declared.row.RowResult.TheVariants.{Any}
use Rattle.ja_ir.specs.declared.op.CallOp.{CallOp}
use Rattle.ja_ir.specs.declared.op.CallKind.TheVariants.{Static}
use Rattle.ja_ir.specs.declared.op.Op.TheVariants.{Const, New, Load, Store, GetField, PutField, Call, Return}
use Rattle.ja_ir.specs.Examples.{class, method, at, named}
use Rattle.ja_examples.specs.Library.{typed, takes, source, sink}

-- the call of f with the first node
abbrev pub unlink : CallOp
unlink = record {
  kind = Static;
  class = codes "N";
  name = codes "f";
  desc = codes "(LN;)V";
  params = named (codes "N") ∷ [];
  result = None;
  row = record { flow = Args; effect = Quiet; result = Any; sinks = []; marks = true ∷ []; category = 0 };
  found = Some (Program (record { 0 = 0 }));
}

-- f: local 0 is its argument, and local 1 the node after it
abbrev pub unlinking_f : Method
unlinking_f =
    typed (codes "(LN;)V") (takes (named (codes "N")))
    (method 0 (codes "f") 0x0009 2 2
    (at 0 (Load R 0) (1 ∷ []) 0 ∷ at 1 (GetField (record { 0 = 0 })) (2 ∷ []) 1 ∷ at 2 (Store R 1) (3 ∷ []) 1
    ∷ at 3 (Load R 1) (4 ∷ []) 0 ∷ at 4 (Call source) (5 ∷ []) 1 ∷ at 5 (PutField (record { 0 = 1 })) (6 ∷ []) 2
    ∷ at 6 (Load R 0) (7 ∷ []) 0 ∷ at 7 (Const R) (8 ∷ []) 1 ∷ at 8 (PutField (record { 0 = 0 })) (9 ∷ []) 2 ∷ at 9 (Return None) [] 0 ∷ []) [])

-- main: local 0 is its argument, locals 1 and 2 are the two nodes
abbrev pub unlinking_main : Method
unlinking_main =
    typed (codes "([Ljava/lang/String;)V") (takes (named (codes "[Ljava/lang/String;")))
    (method 0 (codes "main") 0x0009 3 2
    (at 0 (New (record { 0 = 0 })) (1 ∷ []) 0 ∷ at 1 (Store R 1) (2 ∷ []) 1 ∷ at 2 (New (record { 0 = 0 })) (3 ∷ []) 0 ∷ at 3 (Store R 2) (4 ∷ []) 1
    ∷ at 4 (Load R 1) (5 ∷ []) 0 ∷ at 5 (Load R 2) (6 ∷ []) 1 ∷ at 6 (PutField (record { 0 = 0 })) (7 ∷ []) 2
    ∷ at 7 (Load R 1) (8 ∷ []) 0 ∷ at 8 (Call unlink) (9 ∷ []) 1
    ∷ at 9 (Load R 2) (10 ∷ []) 0 ∷ at 10 (GetField (record { 0 = 1 })) (11 ∷ []) 1 ∷ at 11 (Call sink) (12 ∷ []) 1 ∷ at 12 (Return None) [] 0 ∷ []) [])

-- main is called by the environment
abbrev pub unlinking_entry : Entry
unlinking_entry = record { class = record { 0 = 0 }; method = record { 0 = 1 }; marked = []; marks = true ∷ [] }

-- the sink call
abbrev pub unlinked_site : Site
unlinked_site = record { method = record { 0 = 1 }; index = 11; positions = 0 ∷ []; target = codes "demo/Taint.sink(Ljava/lang/String;)V"; category = 0 }

-- the fields next and v of a node
abbrev pub node_fields : List Field
node_fields =
    record { class = record { 0 = 0 }; name = codes "next"; desc = codes "LN;"; flags = 0; text = false }
    ∷ record { class = record { 0 = 0 }; name = codes "v"; desc = codes "Ljava/lang/String;"; flags = 0; text = false }
    ∷ []

-- the program: method 0 is f, and method 1 is main
abbrev pub unlinking : Parts
unlinking = record {
  classes = class (codes "N") 0x0021 (0 ∷ []) [] ∷ [];
  methods = unlinking_f ∷ unlinking_main ∷ [];
  fields = node_fields;
  entries = unlinking_entry ∷ [];
  sites = unlinked_site ∷ [];
  categories = [];
}

-- A program in which taint comes back from a call: main passes a tainted text to a method that returns it, and passes what the method
-- returned to a sink.
use Rattle.std.specs.Prelude.{true, [], ◌∷◌, Some, None, codes}
use Rattle.ja_base.specs.declared.java_type.Kind.TheVariants.{R}
use Rattle.ja_ir.specs.declared.program.Parts.{Parts}
use Rattle.ja_ir.specs.declared.class.MethodAt.TheVariants.{Program}
use Rattle.ja_ir.specs.declared.method.Method.{Method}
use Rattle.ja_ir.specs.declared.entry.Entry.{Entry}
use Rattle.ja_ir.specs.declared.entry.Site.{Site}
use Rattle.ja_ir.specs.declared.row.RowFlow.TheVariants.{Args}
use Rattle.ja_ir.specs.declared.row.RowEffect.TheVariants.{Quiet}
use Rattle.ja_ir.specs.declared.row.RowResult.TheVariants.{Any}
use Rattle.ja_ir.specs.declared.op.CallOp.{CallOp}
use Rattle.ja_ir.specs.declared.op.CallKind.TheVariants.{Static}
use Rattle.ja_ir.specs.declared.op.Op.TheVariants.{Load, Call, Return}
use Rattle.ja_ir.specs.Examples.{class, method, at}
use Rattle.ja_examples.specs.Library.{string, typed, source, sink}

-- a call of the method that returns its argument
abbrev pub pass : CallOp
pass = record {
  kind = Static;
  class = codes "A";
  name = codes "pass";
  desc = codes "(Ljava/lang/String;)Ljava/lang/String;";
  params = string ∷ [];
  result = Some string;
  row = record { flow = Args; effect = Quiet; result = Any; sinks = []; marks = true ∷ []; category = 0 };
  found = Some (Program (record { 0 = 0 }));
}

-- the sink call in main
abbrev pub passed_site : Site
passed_site = record { method = record { 0 = 1 }; index = 2; positions = 0 ∷ []; target = codes "demo/Taint.sink(Ljava/lang/String;)V"; category = 0 }

-- the method that returns its parameter
abbrev pub passing_pass : Method
passing_pass =
    typed (codes "(Ljava/lang/String;)Ljava/lang/String;") (record { params = string ∷ []; result = Some string; words = 1 })
    (method 0 (codes "pass") 0x0009 1 1 (at 0 (Load R 0) (1 ∷ []) 0 ∷ at 1 (Return (Some R)) [] 1 ∷ []) [])

-- main
abbrev pub passing_main : Method
passing_main = method 0 (codes "main") 0x0009 0 1
    (at 0 (Call source) (1 ∷ []) 0 ∷ at 1 (Call pass) (2 ∷ []) 1 ∷ at 2 (Call sink) (3 ∷ []) 1 ∷ at 3 (Return None) [] 0 ∷ []) []

-- main is called by the environment
abbrev pub passing_entry : Entry
passing_entry = record { class = record { 0 = 0 }; method = record { 0 = 1 }; marked = []; marks = true ∷ [] }

-- the program: method 0 returns its parameter, and method 1 is main
abbrev pub passing : Parts
passing = record {
  classes = class (codes "A") 0x0021 (0 ∷ []) [] ∷ [];
  methods = passing_pass ∷ passing_main ∷ [];
  fields = [];
  entries = passing_entry ∷ [];
  sites = passed_site ∷ [];
  categories = [];
}

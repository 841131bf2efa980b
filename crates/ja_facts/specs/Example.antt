-- A small program: main puts a tainted text into a static field, passes it to a sink, and throws it; its class has a class initialiser.
use Rattle.std.specs.Prelude.{ℕ, zero, suc, Bool, true, false, List, [], ◌∷◌, Some, None, codes}
use Rattle.ja_base.specs.declared.java_type.Kind.TheVariants.{R}
use Rattle.ja_ir.specs.declared.program.Parts.{Parts}
use Rattle.ja_ir.specs.declared.class.MethodAt.TheVariants.{Library}
use Rattle.ja_ir.specs.declared.method.Method.{Method}
use Rattle.ja_ir.specs.declared.method.Instr.{Instr}
use Rattle.ja_ir.specs.declared.entry.Entry.{Entry}
use Rattle.ja_ir.specs.declared.entry.Site.{Site}
use Rattle.ja_ir.specs.declared.row.RowFlow.TheVariants.{Always, Never}
use Rattle.ja_ir.specs.declared.row.RowEffect.TheVariants.{Quiet}
use Rattle.ja_ir.specs.declared.row.RowResult.TheVariants.{Fresh}
use Rattle.ja_ir.specs.declared.op.CallOp.{CallOp}
use Rattle.ja_ir.specs.declared.op.CallKind.TheVariants.{Static}
use Rattle.ja_ir.specs.declared.op.Op.{Op}
use Rattle.ja_ir.specs.declared.op.Op.TheVariants.{Call, PutStatic, GetStatic, Throw, Return}
use Rattle.ja_ir.specs.Examples.{no_types}
use Rattle.ja_facts.specs.Slots.{Slot, Local, OnStack}
use Rattle.ja_facts.specs.Formulas.{Assignment, Summary}

-- an instruction that is reached
abbrev pub reached_instr : (pc : ℕ) → Op → (next : List ℕ) → (height : ℕ) → Instr
reached_instr pc op next height = record { pc = pc; op = op; next = next; height = height; reached = true }

-- a call of demo/Taint.source, whose text is tainted
abbrev pub source_call : CallOp
source_call = record {
  kind = Static;
  class = codes "demo/Taint";
  name = codes "source";
  desc = codes "()Ljava/lang/String;";
  params = [];
  result = Some (record { kind = R; name = codes "java/lang/String" });
  row = record { flow = Always; effect = Quiet; result = Fresh; sinks = []; marks = true ∷ []; category = 0 };
  found = Some Library;
}

-- a call of demo/Taint.sink, to whose argument no tainted value may go
abbrev pub sink_call : CallOp
sink_call = record {
  kind = Static;
  class = codes "demo/Taint";
  name = codes "sink";
  desc = codes "(Ljava/lang/String;)V";
  params = record { kind = R; name = codes "java/lang/String" } ∷ [];
  result = None;
  row = record { flow = Never; effect = Quiet; result = Fresh; sinks = 0 ∷ []; marks = true ∷ []; category = 0 };
  found = Some Library;
}

-- main
abbrev pub example_main : Method
example_main = record {
  class = record { 0 = 0 };
  name = codes "main";
  desc = codes "()V";
  types = no_types;
  flags = 9;
  locals = 0;
  stack = 1;
  code = reached_instr 0 (Call source_call) (1 ∷ []) 0 ∷ reached_instr 3 (PutStatic (record { 0 = 0 })) (2 ∷ []) 1
      ∷ reached_instr 6 (GetStatic (record { 0 = 0 })) (3 ∷ []) 0 ∷ reached_instr 9 (Call sink_call) (4 ∷ []) 1
      ∷ reached_instr 12 (GetStatic (record { 0 = 0 })) (5 ∷ []) 0 ∷ reached_instr 15 Throw [] 1 ∷ [];
  handlers = [];
}

-- the class initialiser, which returns at once
abbrev pub example_initializer : Method
example_initializer = record {
  class = record { 0 = 0 };
  name = codes "<clinit>";
  desc = codes "()V";
  types = no_types;
  flags = 8;
  locals = 0;
  stack = 0;
  code = reached_instr 0 (Return None) [] 0 ∷ [];
  handlers = [];
}

-- main is called by the environment
abbrev pub example_entry : Entry
example_entry = record { class = record { 0 = 0 }; method = record { 0 = 0 }; marked = []; marks = true ∷ [] }

-- the call of the sink
abbrev pub example_site : Site
example_site = record { method = record { 0 = 0 }; index = 3; positions = 0 ∷ []; target = codes "demo/Taint.sink(Ljava/lang/String;)V"; category = 0 }

-- the program
abbrev pub example : Parts
example = record {
  classes = record { name = codes "A"; file = codes "A.class"; flags = 33; absorbing = false; supers = record { 0 = 0 } ∷ []; selections = []; inits = record { 0 = 1 } ∷ [] } ∷ [];
  methods = example_main ∷ example_initializer ∷ [];
  fields = record { class = record { 0 = 0 }; name = codes "f"; desc = codes "Ljava/lang/String;"; flags = 9; text = false } ∷ [];
  entries = example_entry ∷ [];
  sites = example_site ∷ [];
  categories = [];
}

-- nothing is true
abbrev pub nothing : Assignment
nothing = record { slot = λ z. false; dirt = false; exc = false }

-- only the lowest value on the stack is true
abbrev pub lowest : Slot → Bool
lowest (Local l) = false
lowest (OnStack zero) = true
lowest (OnStack (suc k)) = false

-- the assignment in which only the lowest value on the stack is true
abbrev pub only_lowest : Assignment
only_lowest = record { slot = lowest; dirt = false; exc = false }

-- a return of nothing
abbrev pub clean_return : Summary
clean_return = record { result = false; dirt = false; exc = false }

-- a throw of something tainted
abbrev pub tainted_throw : Summary
tainted_throw = record { result = false; dirt = false; exc = true }

-- A program in which a tainted exception passes two methods and is caught in a third. Method 0 is a constructor. Method 1 makes the
-- exception, throws it, catches it and throws it again. Method 2 calls it and catches nothing. Method 3, the entry, calls method 2, catches
-- what is thrown, and passes it to a sink.
use Rattle.std.specs.Prelude.{ℕ, true, List, [], ◌∷◌, Some, None, codes}
use Rattle.ja_ir.specs.declared.program.Parts.{Parts}
use Rattle.ja_ir.specs.declared.class.MethodAt.TheVariants.{Program}
use Rattle.ja_ir.specs.declared.method.Method.{Method}
use Rattle.ja_ir.specs.declared.method.Catch.TheVariants.{All as Everything, Library as InLibrary}
use Rattle.ja_ir.specs.declared.entry.Entry.{Entry}
use Rattle.ja_ir.specs.declared.entry.Site.{Site}
use Rattle.ja_ir.specs.declared.row.RowFlow.TheVariants.{Args}
use Rattle.ja_ir.specs.declared.row.RowEffect.TheVariants.{Quiet}
use Rattle.ja_ir.specs.declared.row.RowResult.TheVariants.{Any}
use Rattle.ja_ir.specs.declared.op.CallOp.{CallOp}
use Rattle.ja_ir.specs.declared.op.CallKind.TheVariants.{Static}
use Rattle.ja_ir.specs.declared.op.Op.TheVariants.{Call, Return, Throw}
use Rattle.ja_ir.specs.Examples.{class, method, at}
use Rattle.ja_examples.specs.Library.{trouble, show}

-- a static call of method m, which takes nothing and answers nothing
abbrev pub plain_call : (name : List ℕ) (m : ℕ) → CallOp
plain_call name m = record {
  kind = Static;
  class = codes "A";
  name = name;
  desc = codes "()V";
  params = [];
  result = None;
  row = record { flow = Args; effect = Quiet; result = Any; sinks = []; marks = true ∷ []; category = 0 };
  found = Some (Program (record { 0 = m }));
}

-- the call of method 1
abbrev pub fail : CallOp
fail = plain_call (codes "fail") 1

-- the call of method 2
abbrev pub relay : CallOp
relay = plain_call (codes "relay") 2

-- the constructor
abbrev pub throwing_constructor : Method
throwing_constructor = method 0 (codes "<init>") 0x0001 1 0 (at 0 (Return None) [] 0 ∷ []) []

-- a method that throws, catches and throws again
abbrev pub throwing_fail : Method
throwing_fail = method 0 (codes "fail") 0x0009 0 1 (at 0 (Call trouble) (1 ∷ []) 0 ∷ at 1 Throw [] 1 ∷ at 2 Throw [] 1 ∷ [])
    (record { start = 1; end = 2; target = 2; catch = Everything } ∷ [])

-- a method that calls it and catches nothing
abbrev pub throwing_relay : Method
throwing_relay = method 0 (codes "relay") 0x0009 0 0 (at 0 (Call fail) (1 ∷ []) 0 ∷ at 1 (Return None) [] 0 ∷ []) []

-- a method that calls that one and catches what is thrown
abbrev pub throwing_run : Method
throwing_run = method 0 (codes "run") 0x0001 1 1
    (at 0 (Call relay) (1 ∷ []) 0 ∷ at 1 (Return None) [] 0 ∷ at 2 (Call show) (3 ∷ []) 1 ∷ at 3 (Return None) [] 0 ∷ [])
    (record { start = 0; end = 1; target = 2; catch = InLibrary } ∷ [])

-- method 3 is called by the environment, on an object of the class
abbrev pub throwing_entry : Entry
throwing_entry = record { class = record { 0 = 0 }; method = record { 0 = 3 }; marked = []; marks = true ∷ [] }

-- the sink call behind the handler
abbrev pub caught_site : Site
caught_site = record { method = record { 0 = 3 }; index = 2; positions = 0 ∷ []; target = codes "demo/Taint.show(Ljava/lang/RuntimeException;)V"; category = 0 }

-- the program
abbrev pub throwing : Parts
throwing = record {
  classes = class (codes "A") 0x0021 (0 ∷ []) [] ∷ [];
  methods = throwing_constructor ∷ throwing_fail ∷ throwing_relay ∷ throwing_run ∷ [];
  fields = [];
  entries = throwing_entry ∷ [];
  sites = caught_site ∷ [];
  categories = [];
}

-- A program with two virtual calls of one method: Q and R override the method m of P, and Q's answers something tainted. One main calls m
-- of a Q or of an R, another of an R alone, and each passes the answer to a sink. Token 0 is P, 1 is Q, 2 is R, 3 a text, 4 a library
-- object, 5 an array of references and 6 an array of primitives.
use Rattle.std.specs.Prelude.{ℕ, true, [], ◌∷◌, Some, None, codes}
use Rattle.ja_base.specs.declared.java_type.Kind.TheVariants.{P1, R}
use Rattle.ja_ir.specs.declared.program.Parts.{Parts}
use Rattle.ja_ir.specs.declared.class.ClassInfo.{ClassInfo}
use Rattle.ja_ir.specs.declared.class.Selection.{Selection}
use Rattle.ja_ir.specs.declared.class.MethodAt.{MethodAt}
use Rattle.ja_ir.specs.declared.class.MethodAt.TheVariants.{Program, Abstract}
use Rattle.ja_ir.specs.declared.method.Method.{Method}
use Rattle.ja_ir.specs.declared.entry.Entry.{Entry}
use Rattle.ja_ir.specs.declared.entry.Site.{Site}
use Rattle.ja_ir.specs.declared.row.RowFlow.TheVariants.{Args}
use Rattle.ja_ir.specs.declared.row.RowEffect.TheVariants.{Quiet}
use Rattle.ja_ir.specs.declared.row.RowResult.TheVariants.{Any}
use Rattle.ja_ir.specs.declared.op.CallOp.{CallOp}
use Rattle.ja_ir.specs.declared.op.CallKind.TheVariants.{Virtual}
use Rattle.ja_ir.specs.declared.op.Op.TheVariants.{Const, Text, New, Branch, Call, Return}
use Rattle.ja_ir.specs.Examples.{class, method, at}
use Rattle.ja_examples.specs.Library.{string, typed, gives_string, source, sink}

-- a virtual call of m
abbrev pub call_m : CallOp
call_m = record {
  kind = Virtual;
  class = codes "P";
  name = codes "m";
  desc = codes "()Ljava/lang/String;";
  params = [];
  result = Some string;
  row = record { flow = Args; effect = Quiet; result = Any; sinks = []; marks = true ∷ []; category = 0 };
  found = None;
}

-- Q's m answers something tainted
abbrev pub choosing_q : Method
choosing_q = typed (codes "()Ljava/lang/String;") gives_string (method 1 (codes "m") 0x0001 1 1 (at 0 (Call source) (1 ∷ []) 0 ∷ at 1 (Return (Some R)) [] 1 ∷ []) [])

-- R's m answers a constant
abbrev pub choosing_r : Method
choosing_r = typed (codes "()Ljava/lang/String;") gives_string (method 2 (codes "m") 0x0001 1 1 (at 0 Text (1 ∷ []) 0 ∷ at 1 (Return (Some R)) [] 1 ∷ []) [])

-- P's m has no code
abbrev pub choosing_p : Method
choosing_p = typed (codes "()Ljava/lang/String;") gives_string (method 0 (codes "m") 0x0401 0 0 [] [])

-- the main that makes a Q or an R
abbrev pub either_main : Method
either_main =
    method 0 (codes "either") 0x0009 0 1
    (at 0 (Const P1) (1 ∷ []) 0 ∷ at 1 (Branch 1) (4 ∷ 2 ∷ []) 1 ∷ at 2 (New (record { 0 = 1 })) (3 ∷ []) 0 ∷ at 3 (Branch 0) (5 ∷ []) 1
    ∷ at 4 (New (record { 0 = 2 })) (5 ∷ []) 0 ∷ at 5 (Call call_m) (6 ∷ []) 1 ∷ at 6 (Call sink) (7 ∷ []) 1 ∷ at 7 (Return None) [] 0 ∷ []) []

-- the main that makes an R
abbrev pub single_main : Method
single_main =
    method 0 (codes "single") 0x0009 0 1
    (at 0 (New (record { 0 = 2 })) (1 ∷ []) 0 ∷ at 1 (Call call_m) (2 ∷ []) 1 ∷ at 2 (Call sink) (3 ∷ []) 1 ∷ at 3 (Return None) [] 0 ∷ []) []

-- both are called by the environment
abbrev pub choosing_entry : (m : ℕ) → Entry
choosing_entry m = record { class = record { 0 = 0 }; method = record { 0 = m }; marked = []; marks = true ∷ [] }

-- the sink call of each
abbrev pub choosing_site : (m i : ℕ) → Site
choosing_site m i = record { method = record { 0 = m }; index = i; positions = 0 ∷ []; target = codes "demo/Taint.sink(Ljava/lang/String;)V"; category = 0 }

-- what a class selects for m
abbrev pub selects : MethodAt → Selection
selects target = record { name = codes "m"; desc = codes "()Ljava/lang/String;"; target = target }

-- P, which is abstract
abbrev pub class_p : ClassInfo
class_p = class (codes "P") 0x0421 (0 ∷ []) (selects (Abstract (record { 0 = 4 })) ∷ [])

-- Q
abbrev pub class_q : ClassInfo
class_q = class (codes "Q") 0x0021 (0 ∷ 1 ∷ []) (selects (Program (record { 0 = 0 })) ∷ [])

-- R
abbrev pub class_r : ClassInfo
class_r = class (codes "R") 0x0021 (0 ∷ 2 ∷ []) (selects (Program (record { 0 = 1 })) ∷ [])

-- the program: method 0 is Q's, 1 is R's, 2 and 3 are the mains, 4 is P's
abbrev pub choosing : Parts
choosing = record {
  classes = class_p ∷ class_q ∷ class_r ∷ [];
  methods = choosing_q ∷ choosing_r ∷ either_main ∷ single_main ∷ choosing_p ∷ [];
  fields = [];
  entries = choosing_entry 2 ∷ choosing_entry 3 ∷ [];
  sites = choosing_site 2 6 ∷ choosing_site 3 2 ∷ [];
  categories = [];
}

-- A whole program.
use Rattle.std.specs.Prelude.{ℕ, true, false, List, [], ◌∷◌, Option, Some, None, codes}
use Rattle.ja_base.specs.declared.id.ClassId.{ClassId}
use Rattle.ja_base.specs.declared.id.MethodId.{MethodId}
use Rattle.ja_base.specs.declared.java_type.Kind.TheVariants.{P1, R}
use Rattle.ja_base.specs.declared.java_type.JavaType.{JavaType}
use Rattle.ja_ir.specs.declared.program.Parts.{Parts}
use Rattle.ja_ir.specs.declared.class.Selection.{Selection}
use Rattle.ja_ir.specs.declared.class.Field.{Field}
use Rattle.ja_ir.specs.declared.class.MethodAt.{MethodAt}
use Rattle.ja_ir.specs.declared.class.MethodAt.TheVariants.{Program, Abstract, Library}
use Rattle.ja_ir.specs.declared.method.Method.{Method}
use Rattle.ja_ir.specs.declared.method.Handler.{Handler}
use Rattle.ja_ir.specs.declared.method.Catch.TheVariants.{All as Everything}
use Rattle.ja_ir.specs.declared.entry.Entry.{Entry}
use Rattle.ja_ir.specs.declared.entry.Site.{Site}
use Rattle.ja_ir.specs.declared.row.RowFlow.TheVariants.{Never}
use Rattle.ja_ir.specs.declared.row.RowEffect.TheVariants.{Quiet}
use Rattle.ja_ir.specs.declared.row.RowResult.TheVariants.{Fresh}
use Rattle.ja_ir.specs.declared.op.CallOp.{CallOp}
use Rattle.ja_ir.specs.declared.op.CallKind.TheVariants.{Static}
use Rattle.ja_ir.specs.declared.op.Op.{Op}
use Rattle.ja_ir.specs.declared.op.Op.TheVariants.{Const, Return, Call, Throw}
use Rattle.ja_ir.specs.Examples.{class, method, at}

-- a sink of one number
abbrev pub sink : CallOp
sink = record {
  kind = Static;
  class = codes "demo/Taint";
  name = codes "sink";
  desc = codes "(I)V";
  params = record { kind = P1; name = codes "I" } ∷ [];
  result = None;
  row = record { flow = Never; effect = Quiet; result = Fresh; sinks = 0 ∷ []; marks = true ∷ []; category = 0 };
  found = Some Library;
}

-- a static method that gives a number to the sink, and throws again what the call throws
abbrev pub main : Method
main = method 0 (codes "main") 0x0009 0 1
    (at 0 (Const P1) (1 ∷ []) 0 ∷ at 1 (Call sink) (2 ∷ []) 1 ∷ at 2 (Return None) [] 0 ∷ at 3 Throw [] 1 ∷ [])
    (record { start = 0; end = 2; target = 3; catch = Everything } ∷ [])

-- a constructor
abbrev pub constructor : Method
constructor = method 0 (codes "<init>") 0x0001 1 0 (at 0 (Return None) [] 0 ∷ []) []

-- a method with a receiver
abbrev pub member : Method
member = method 0 (codes "m") 0x0001 1 0 (at 0 (Return None) [] 0 ∷ []) []

-- a class initialiser
abbrev pub initializer : Method
initializer = method 0 (codes "<clinit>") 0x0008 0 0 (at 0 (Return None) [] 0 ∷ []) []

-- a method without code
abbrev pub without_code : Method
without_code = method 0 (codes "n") 0x0401 0 0 [] []

-- what calls on an object of the class select
abbrev pub selected : List Selection
selected =
    record { name = codes "m"; desc = codes "()V"; target = Program (record { 0 = 2 }) }
    ∷ record { name = codes "n"; desc = codes "()V"; target = Abstract (record { 0 = 3 }) }
    ∷ []

-- a class with these methods and a field; the static method and the one with a receiver are entries
abbrev pub sample : Parts
sample = record {
  classes = record (class (codes "A") 0x0421 (0 ∷ []) selected) { inits = record { 0 = 4 } ∷ [] } ∷ [];
  methods = main ∷ constructor ∷ member ∷ without_code ∷ initializer ∷ [];
  fields = record { class = record { 0 = 0 }; name = codes "a"; desc = codes "I"; flags = 0; text = false } ∷ [];
  entries = entry 0 ∷ entry 2 ∷ [];
  sites = record { method = record { 0 = 0 }; index = 1; positions = 0 ∷ []; target = codes "demo/Taint.sink(I)V"; category = 0 } ∷ [];
  categories = [];
}
  where
    entry : ℕ → Entry
    entry m = record { class = record { 0 = 0 }; method = record { 0 = m }; marked = []; marks = true ∷ [] }

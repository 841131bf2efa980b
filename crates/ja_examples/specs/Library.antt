-- Calls of the library that the examples make.
use Rattle.std.specs.Prelude.{ℕ, true, List, [], ◌∷◌, Some, None, codes}
use Rattle.ja_base.specs.declared.java_type.JavaType.{JavaType}
use Rattle.ja_base.specs.declared.java_type.Desc.{Desc}
use Rattle.ja_ir.specs.declared.method.Method.{Method}
use Rattle.ja_ir.specs.declared.class.MethodAt.TheVariants.{Library}
use Rattle.ja_ir.specs.declared.row.RowFlow.TheVariants.{Always, Never, Args}
use Rattle.ja_ir.specs.declared.row.RowEffect.TheVariants.{Quiet, Absorb}
use Rattle.ja_ir.specs.declared.row.RowResult.TheVariants.{Fresh, Argument}
use Rattle.ja_ir.specs.declared.op.CallOp.{CallOp}
use Rattle.ja_ir.specs.declared.op.CallKind.TheVariants.{Static, Virtual}
use Rattle.ja_ir.specs.Examples.{named}

-- the type of texts
abbrev pub string : JavaType
string = named (codes "java/lang/String")

-- the type of builders of texts
abbrev pub builder : JavaType
builder = named (codes "java/lang/StringBuilder")

-- the method with this descriptor, which spells these types
abbrev pub typed : (desc : List ℕ) → Desc → Method → Method
typed desc types method = record method { desc = desc; types = types }

-- one parameter of a reference type, and no result
abbrev pub takes : JavaType → Desc
takes type = record { params = type ∷ []; result = None; words = 1 }

-- no parameters, and a text as the result
abbrev pub gives_string : Desc
gives_string = record { params = []; result = Some string; words = 0 }

-- a source: it answers a new tainted text
abbrev pub source : CallOp
source = record {
  kind = Static;
  class = codes "demo/Taint";
  name = codes "source";
  desc = codes "()Ljava/lang/String;";
  params = [];
  result = Some string;
  row = record { flow = Always; effect = Quiet; result = Fresh; sinks = []; marks = true ∷ []; category = 0 };
  found = Some Library;
}

-- a sink, to whose argument no tainted text may go
abbrev pub sink : CallOp
sink = record {
  kind = Static;
  class = codes "demo/Taint";
  name = codes "sink";
  desc = codes "(Ljava/lang/String;)V";
  params = string ∷ [];
  result = None;
  row = record { flow = Never; effect = Quiet; result = Fresh; sinks = 0 ∷ []; marks = true ∷ []; category = 0 };
  found = Some Library;
}

-- a source that answers a new tainted exception
abbrev pub trouble : CallOp
trouble = record {
  kind = Static;
  class = codes "demo/Taint";
  name = codes "trouble";
  desc = codes "()Ljava/lang/RuntimeException;";
  params = [];
  result = Some (named (codes "java/lang/RuntimeException"));
  row = record { flow = Always; effect = Quiet; result = Fresh; sinks = []; marks = true ∷ []; category = 0 };
  found = Some Library;
}

-- a sink, to whose argument no tainted exception may go
abbrev pub show : CallOp
show = record {
  kind = Static;
  class = codes "demo/Taint";
  name = codes "show";
  desc = codes "(Ljava/lang/RuntimeException;)V";
  params = named (codes "java/lang/RuntimeException") ∷ [];
  result = None;
  row = record { flow = Never; effect = Quiet; result = Fresh; sinks = 0 ∷ []; marks = true ∷ []; category = 0 };
  found = Some Library;
}

-- a builder takes a text into itself, and answers itself
abbrev pub append : CallOp
append = record {
  kind = Virtual;
  class = codes "java/lang/StringBuilder";
  name = codes "append";
  desc = codes "(Ljava/lang/String;)Ljava/lang/StringBuilder;";
  params = string ∷ [];
  result = Some builder;
  row = record { flow = Args; effect = Absorb; result = Argument; sinks = []; marks = true ∷ []; category = 0 };
  found = None;
}

-- a builder answers its text
abbrev pub to_text : CallOp
to_text = record {
  kind = Virtual;
  class = codes "java/lang/StringBuilder";
  name = codes "toString";
  desc = codes "()Ljava/lang/String;";
  params = [];
  result = Some string;
  row = record { flow = Args; effect = Quiet; result = Fresh; sinks = []; marks = true ∷ []; category = 0 };
  found = None;
}

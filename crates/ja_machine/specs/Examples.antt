-- Small programs and what the machine does with them.
use Rattle.std.specs.Prelude.{◌≡◌, ℕ, Bool, true, false, List, [], ◌∷◌, Option, Some, None, codes, length, map}
use Rattle.ja_base.specs.declared.id.FieldId.{FieldId}
use Rattle.ja_base.specs.declared.java_type.Kind.TheVariants.{P1, R}
use Rattle.ja_base.specs.declared.java_type.JavaType.{JavaType}
use Rattle.ja_ir.specs.declared.program.Parts.{Parts}
use Rattle.ja_ir.specs.declared.class.Selection.{Selection}
use Rattle.ja_ir.specs.declared.class.Field.{Field}
use Rattle.ja_ir.specs.declared.class.MethodAt.TheVariants.{Program, Library}
use Rattle.ja_ir.specs.declared.method.Method.{Method}
use Rattle.ja_ir.specs.declared.method.Instr.{Instr}
use Rattle.ja_ir.specs.declared.method.Catch.{Catch}
use Rattle.ja_ir.specs.declared.method.Catch.TheVariants.{All as Everything, Library as InLibrary}
use Rattle.ja_ir.specs.declared.entry.Entry.{Entry}
use Rattle.ja_ir.specs.declared.entry.Site.{Site}
use Rattle.ja_ir.specs.declared.row.LibRow.{LibRow}
use Rattle.ja_ir.specs.declared.row.RowFlow.{RowFlow}
use Rattle.ja_ir.specs.declared.row.RowFlow.TheVariants.{Always, Never, Args}
use Rattle.ja_ir.specs.declared.row.RowEffect.{RowEffect}
use Rattle.ja_ir.specs.declared.row.RowEffect.TheVariants.{Quiet, Absorb}
use Rattle.ja_ir.specs.declared.row.RowResult.{RowResult}
use Rattle.ja_ir.specs.declared.row.RowResult.TheVariants.{Fresh, Argument}
use Rattle.ja_ir.specs.declared.op.CallOp.{CallOp}
use Rattle.ja_ir.specs.declared.op.CallKind.TheVariants.{Virtual, Static}
use Rattle.ja_ir.specs.declared.op.Op.{Op}
use Rattle.ja_ir.specs.declared.op.Op.TheVariants.{Const, Text, New, Load, Store, ArrStore, Shuffle, Mix, Return, GetStatic, PutStatic, GetField, PutField, Call, NewArray, Throw}
use Rattle.ja_ir.specs.Examples.{class, method, at, named}
use Rattle.ja_machine.specs.declared.heap.Value.{Value}
use Rattle.ja_machine.specs.declared.heap.Value.TheVariants.{Prim, Null, Ref}
use Rattle.ja_machine.specs.Marks.{none}
use Rattle.ja_machine.specs.State.{World, Event, Point, Outcome, Returned, Threw, Stuck, Cut, Failed, changed, with_object}
use Rattle.ja_machine.specs.Run.{call_run, store_in, events_in}
use Rattle.ja_machine.specs.Environment.{Initialize, Create, Make, CallEntry, GiveNull, GiveObject, Known, Rest, Attempt, Refused, MadeNew, Ran, attempt, program_run, events_of}

-- the type of texts
abbrev pub string : JavaType
string = named (codes "java/lang/String")

-- a library row with these parts, whose marks and sinks are of the one category
abbrev pub lib_row : RowFlow → RowEffect → RowResult → (sinks : List ℕ) → LibRow
lib_row flow effect result sinks = record { flow = flow; effect = effect; result = result; sinks = sinks; marks = true ∷ []; category = 0 }

-- a method with this descriptor, which spells these parameters and this result
abbrev pub typed : (desc : List ℕ) (params : List JavaType) (result : Option JavaType) → Method → Method
typed desc params result method = record method { desc = desc; types = record { params = params; result = result; words = length params } }

-- the same with a text as its result
abbrev pub answering : Method → Method
answering method = typed (codes "()Ljava/lang/String;") [] (Some string) method

-- a call of a source: it answers a new tainted text
abbrev pub source_call : CallOp
source_call = record {
  kind = Static;
  class = codes "demo/Taint";
  name = codes "source";
  desc = codes "()Ljava/lang/String;";
  params = [];
  result = Some string;
  row = lib_row Always Quiet Fresh [];
  found = Some Library;
}

-- a source
abbrev pub source : Op
source = Call source_call

-- a sink, whose argument must not be tainted
abbrev pub sink : Op
sink = Call (record {
  kind = Static;
  class = codes "demo/Taint";
  name = codes "sink";
  desc = codes "(Ljava/lang/String;)V";
  params = string ∷ [];
  result = None;
  row = lib_row Never Quiet Fresh (0 ∷ []);
  found = Some Library;
})

-- a library call on a builder, which takes its argument into itself
abbrev pub append : Op
append = Call (record {
  kind = Virtual;
  class = codes "java/lang/StringBuilder";
  name = codes "append";
  desc = codes "(Ljava/lang/String;)V";
  params = string ∷ [];
  result = None;
  row = lib_row Args Absorb Argument [];
  found = None;
})

-- a virtual call of a method m without arguments, named in class P
abbrev pub call_m : Op
call_m = Call (record {
  kind = Virtual;
  class = codes "P";
  name = codes "m";
  desc = codes "()Ljava/lang/String;";
  params = [];
  result = Some string;
  row = lib_row Args Quiet Fresh [];
  found = None;
})

-- a static call of program method 0 with one argument and no result
abbrev pub call_f : Op
call_f = Call (record {
  kind = Static;
  class = codes "N";
  name = codes "f";
  desc = codes "(LN;)V";
  params = named (codes "N") ∷ [];
  result = None;
  row = lib_row Args Quiet Fresh [];
  found = Some (Program (record { 0 = 0 }));
})

-- a static call of program method 0 without arguments
abbrev pub call_thrower : Op
call_thrower = Call (record {
  kind = Static;
  class = codes "E";
  name = codes "f";
  desc = codes "()V";
  params = [];
  result = None;
  row = lib_row Args Quiet Fresh [];
  found = Some (Program (record { 0 = 0 }));
})

-- instruction i of method m as a sink call
abbrev pub site : (m i : ℕ) → Site
site m i = record { method = record { 0 = m }; index = i; positions = 0 ∷ []; target = codes "demo/Taint.sink(Ljava/lang/String;)V"; category = 0 }

-- no objects yet, and these choices
abbrev pub empty_world : List ℕ → World
empty_world choices = record { choices = choices; store = record { heap = []; statics = []; written = []; set = []; events = [] } }

-- the one sink call was met with a tainted argument
abbrev pub tainted_event : List Event
tainted_event = record { site = 0; positions = 0 ∷ [] } ∷ []

-- the one sink call was met with a clean argument
abbrev pub clean_event : List Event
clean_event = record { site = 0; positions = [] } ∷ []

-- a class P with two subclasses Q and R; Q.m answers something tainted and R.m a constant. The main method makes an object of class c,
-- calls its m and gives the answer to the sink
abbrev pub overriding : (c : ℕ) → Parts
overriding c = record {
  classes = class (codes "P") 0x0021 (0 ∷ []) [] ∷ class (codes "Q") 0x0021 (0 ∷ 1 ∷ []) (selects 0 ∷ []) ∷ class (codes "R") 0x0021 (0 ∷ 2 ∷ []) (selects 1 ∷ []) ∷ [];
  methods =
      answering (method 1 (codes "m") 0x0001 1 1 (at 0 source (1 ∷ []) 0 ∷ at 1 (Return (Some R)) [] 1 ∷ []) [])
      ∷ answering (method 2 (codes "m") 0x0001 1 1 (at 0 Text (1 ∷ []) 0 ∷ at 1 (Return (Some R)) [] 1 ∷ []) [])
      ∷ method 0 (codes "main") 0x0009 0 1
      (at 0 (New (record { 0 = c })) (1 ∷ []) 0 ∷ at 1 call_m (2 ∷ []) 1 ∷ at 2 sink (3 ∷ []) 1 ∷ at 3 (Return None) [] 0 ∷ []) []
      ∷ [];
  fields = [];
  entries = [];
  sites = site 2 2 ∷ [];
  categories = [];
}
  where
    selects : ℕ → Selection
    selects m = record { name = codes "m"; desc = codes "()Ljava/lang/String;"; target = Program (record { 0 = m }) }

-- the main method appends something tainted to a builder and gives the builder to the sink
abbrev pub building : Parts
building = record {
  classes = [];
  methods =
      method 0 (codes "main") 0x0009 0 3
      (at 0 (New (record { 0 = 1 })) (1 ∷ []) 0 ∷ at 1 (Shuffle 1 (0 ∷ 0 ∷ [])) (2 ∷ []) 1 ∷ at 2 source (3 ∷ []) 2 ∷ at 3 append (4 ∷ []) 3 ∷ at 4 sink (5 ∷ []) 1 ∷ at 5 (Return None) [] 0 ∷ []) []
      ∷ [];
  fields = [];
  entries = [];
  sites = site 0 4 ∷ [];
  categories = [];
}

-- a field of class 0 that is not static
abbrev pub field : (name desc : List ℕ) → Field
field name desc = record { class = record { 0 = 0 }; name = name; desc = desc; flags = 0; text = false }

-- nodes with a field next and a field v. The method f puts something tainted into v of its argument's next node, and unlinks that node.
-- The main method links two nodes, calls f with the first, and gives v of the second to the sink
abbrev pub unlinking : Parts
unlinking = record {
  classes = class (codes "N") 0x0021 (0 ∷ []) [] ∷ [];
  methods =
      typed (codes "(LN;)V") (named (codes "N") ∷ []) None (method 0 (codes "f") 0x0009 2 2
      (at 0 (Load R 0) (1 ∷ []) 0 ∷ at 1 (GetField next) (2 ∷ []) 1 ∷ at 2 (Store R 1) (3 ∷ []) 1
      ∷ at 3 (Load R 1) (4 ∷ []) 0 ∷ at 4 source (5 ∷ []) 1 ∷ at 5 (PutField v) (6 ∷ []) 2
      ∷ at 6 (Load R 0) (7 ∷ []) 0 ∷ at 7 (Const R) (8 ∷ []) 1 ∷ at 8 (PutField next) (9 ∷ []) 2 ∷ at 9 (Return None) [] 0 ∷ []) [])
      ∷ method 0 (codes "main") 0x0009 2 2
      (at 0 (New (record { 0 = 0 })) (1 ∷ []) 0 ∷ at 1 (Store R 0) (2 ∷ []) 1 ∷ at 2 (New (record { 0 = 0 })) (3 ∷ []) 0 ∷ at 3 (Store R 1) (4 ∷ []) 1
      ∷ at 4 (Load R 0) (5 ∷ []) 0 ∷ at 5 (Load R 1) (6 ∷ []) 1 ∷ at 6 (PutField next) (7 ∷ []) 2
      ∷ at 7 (Load R 0) (8 ∷ []) 0 ∷ at 8 call_f (9 ∷ []) 1
      ∷ at 9 (Load R 1) (10 ∷ []) 0 ∷ at 10 (GetField v) (11 ∷ []) 1 ∷ at 11 sink (12 ∷ []) 1 ∷ at 12 (Return None) [] 0 ∷ []) []
      ∷ [];
  fields = field (codes "next") (codes "LN;") ∷ field (codes "v") (codes "Ljava/lang/String;") ∷ [];
  entries = [];
  sites = site 1 11 ∷ [];
  categories = [];
}
  where
    next : FieldId
    next = record { 0 = 0 }

    v : FieldId
    v = record { 0 = 1 }

-- the main method throws a library object that took something tainted, catches it by this and gives it to the sink
abbrev pub catching : Catch → Parts
catching catch = record {
  classes = [];
  methods =
      method 0 (codes "main") 0x0009 0 3
      (at 0 (New (record { 0 = 1 })) (1 ∷ []) 0 ∷ at 1 (Shuffle 1 (0 ∷ 0 ∷ [])) (2 ∷ []) 1 ∷ at 2 source (3 ∷ []) 2 ∷ at 3 append (4 ∷ []) 3 ∷ at 4 Throw [] 1
      ∷ at 5 sink (6 ∷ []) 1 ∷ at 6 (Return None) [] 0 ∷ [])
      (record { start = 0; end = 5; target = 5; catch = catch } ∷ [])
      ∷ [];
  fields = [];
  entries = [];
  sites = site 0 5 ∷ [];
  categories = [];
}

-- a method throws something tainted; the main method calls it, catches what it throws and gives it to the sink
abbrev pub throwing : Parts
throwing = record {
  classes = [];
  methods =
      method 0 (codes "f") 0x0009 0 1 (at 0 source (1 ∷ []) 0 ∷ at 1 Throw [] 1 ∷ []) []
      ∷ method 0 (codes "main") 0x0009 0 1 (at 0 call_thrower (1 ∷ []) 0 ∷ at 1 (Return None) [] 0 ∷ at 2 sink (1 ∷ []) 1 ∷ [])
      (record { start = 0; end = 1; target = 2; catch = Everything } ∷ [])
      ∷ [];
  fields = [];
  entries = [];
  sites = site 1 2 ∷ [];
  categories = [];
}

-- a marked text is there, and no choice is left
abbrev pub with_marked_text : World
with_marked_text = changed (with_object (record { token = record { 0 = 0 }; fields = []; mark = 1; bag = [] })) (empty_world [])

-- two entries with one parameter of a library class: the first appends something tainted to it, the second gives it to the sink
abbrev pub sharing : Parts
sharing = record {
  classes = class (codes "E") 0x0021 (0 ∷ []) [] ∷ [];
  methods =
      boxed (method 0 (codes "put") 0x0009 1 2 (at 0 (Load R 0) (1 ∷ []) 0 ∷ at 1 source (2 ∷ []) 1 ∷ at 2 append (3 ∷ []) 2 ∷ at 3 (Return None) [] 0 ∷ []) [])
      ∷ boxed (method 0 (codes "get") 0x0009 1 1 (at 0 (Load R 0) (1 ∷ []) 0 ∷ at 1 sink (2 ∷ []) 1 ∷ at 2 (Return None) [] 0 ∷ []) [])
      ∷ [];
  fields = [];
  entries = entry 0 ∷ entry 1 ∷ [];
  sites = site 1 1 ∷ [];
  categories = [];
}
  where
    entry : ℕ → Entry
    entry m = record { class = record { 0 = 0 }; method = record { 0 = m }; marked = []; marks = true ∷ [] }

    boxed : Method → Method
    boxed it = typed (codes "(Ldemo/Box;)V") (named (codes "demo/Box") ∷ []) None it

-- the static field of the next program
abbrev pub constant_field : FieldId
constant_field = record { 0 = 0 }

-- a class with a static field and a class initialiser, method 1, of this code. The main method, which is an entry, reads the field and gives
-- it to the sink
abbrev pub initializing : (code : List Instr) → Parts
initializing code = record {
  classes = record (class (codes "K") 0x0021 (0 ∷ []) []) { inits = record { 0 = 1 } ∷ [] } ∷ [];
  methods =
      method 0 (codes "main") 0x0009 0 1 (at 0 (GetStatic constant_field) (1 ∷ []) 0 ∷ at 1 sink (2 ∷ []) 1 ∷ at 2 (Return None) [] 0 ∷ []) []
      ∷ method 0 (codes "<clinit>") 0x0008 0 3 code []
      ∷ [];
  fields = record (field (codes "s") (codes "Ljava/lang/String;")) { flags = 0x0008 } ∷ [];
  entries = record { class = record { 0 = 0 }; method = record { 0 = 0 }; marked = []; marks = true ∷ [] } ∷ [];
  sites = site 0 1 ∷ [];
  categories = [];
}

-- a class initialiser that puts something tainted into the field
abbrev pub tainting : List Instr
tainting = at 0 source (1 ∷ []) 0 ∷ at 1 (PutStatic constant_field) (2 ∷ []) 1 ∷ at 2 (Return None) [] 0 ∷ []

-- a class initialiser that puts something tainted into an array of its own
abbrev pub dirtying : List Instr
dirtying =
    at 0 (Const P1) (1 ∷ []) 0 ∷ at 1 (NewArray (record { 0 = 3 }) 1) (2 ∷ []) 1 ∷ at 2 (Const P1) (3 ∷ []) 1 ∷ at 3 source (4 ∷ []) 2
    ∷ at 4 (ArrStore R) (5 ∷ []) 3 ∷ at 5 (Return None) [] 0 ∷ []

-- a class initialiser that throws
abbrev pub failing : List Instr
failing = at 0 (Const R) (1 ∷ []) 0 ∷ at 1 Throw [] 1 ∷ []

-- a static field that is null, and these choices
abbrev pub null_field : List ℕ → World
null_field choices = record { choices = choices; store = record { heap = []; statics = Null ∷ []; written = []; set = []; events = [] } }

-- before instruction i of method m, which began when the field was null, with this stack
abbrev pub beginning : (m i : ℕ) (stack : List Value) → Point
beginning m i stack = record {
  method = m;
  index = i;
  frame = record { locals = []; stack = stack; dirt = none };
  began = record { args = []; store = (null_field []).store };
}

-- the run that a class initialiser ended
abbrev pub failed_run : Outcome
failed_run =
    Failed (beginning 1 1 []) (beginning 0 0 [] ∷ [])
    (changed (with_object (record { token = record { 0 = 2 }; fields = []; mark = none; bag = [] })) (null_field []))

-- the dirt of the innermost frame of a run that was cut
abbrev pub dirt_in : Outcome → ℕ
dirt_in (Cut innermost callers world) = innermost.frame.dirt
dirt_in _ = none

-- two categories: the main method gives what the source answers, with marks of these categories, to a sink of each
abbrev pub in_two_categories : (marks : List Bool) → Parts
in_two_categories marks = record {
  classes = [];
  methods =
      method 0 (codes "main") 0x0009 0 2
      (at 0 marking (1 ∷ []) 0 ∷ at 1 (Shuffle 1 (0 ∷ 0 ∷ [])) (2 ∷ []) 1 ∷ at 2 sink (3 ∷ []) 2 ∷ at 3 sink (4 ∷ []) 1 ∷ at 4 (Return None) [] 0 ∷ []) []
      ∷ [];
  fields = [];
  entries = [];
  sites = site 0 2 ∷ record (site 0 3) { category = 1 } ∷ [];
  categories = codes "sql" ∷ codes "page" ∷ [];
}
  where
    marking : Op
    marking = Call (record source_call { row = record (lib_row Always Quiet Fresh []) { marks = marks } })

-- the second entry of `sharing` alone, whose parameter may be given what has marks of the first of two categories
abbrev pub receiving : Parts
receiving = record sharing {
  entries = record { class = record { 0 = 0 }; method = record { 0 = 1 }; marked = 0 ∷ []; marks = true ∷ false ∷ [] } ∷ [];
}

-- a method of this code alone
abbrev pub running : List Instr → Parts
running code = record { classes = []; methods = method 0 (codes "main") 0x0009 0 1 code [] ∷ []; fields = []; entries = []; sites = []; categories = [] }

-- before instruction i of a method that began with nothing, with this stack
abbrev pub before : (i : ℕ) (stack : List Value) → Point
before i stack = record {
  method = 0;
  index = i;
  frame = record { locals = []; stack = stack; dirt = none };
  began = record { args = []; store = (empty_world []).store };
}

-- the places of the objects that a run has written
abbrev pub written_in : Outcome → List ℕ
written_in outcome = (store_in outcome).written

-- what stands before the first action
abbrev pub nothing_yet : Rest
nothing_yet = record { heap = []; statics = []; events = []; known = [] }

-- a new library object with these marks, which the environment has
abbrev pub one_object : (mark : ℕ) → Rest
one_object mark = record {
  heap = record { token = record { 0 = 2 }; fields = []; mark = mark; bag = [] } ∷ [];
  statics = [];
  events = [];
  known = record { place = 0; noted = mark } ∷ [];
}

-- a run came to its end
abbrev pub has_returned : Attempt → Bool
has_returned (Ran known (Returned value dirt world left)) = true
has_returned _ = false

-- the categories in which the environment's objects are noted after something was made
abbrev pub noted_after : Attempt → List ℕ
noted_after (MadeNew value rest) = map (λ (it : Known). it.noted) rest.known
noted_after _ = []

-- what the machine does with these programs
pub record ProgramsRun : Type 0 where
  -- a virtual call selects the method of the receiver's class
  pub override_taints : events_in (call_run (overriding 1) 2 [] (empty_world []) 20) ≡ tainted_event
  pub override_is_clean : events_in (call_run (overriding 2) 2 [] (empty_world []) 20) ≡ clean_event
  -- a builder that took something tainted is tainted: its mark rose, or its bag has it
  pub builder_marked : events_in (call_run building 0 [] (empty_world (0 ∷ 0 ∷ 1 ∷ 1 ∷ [])) 20) ≡ tainted_event
  pub builder_holds : events_in (call_run building 0 [] (empty_world (0 ∷ 0 ∷ 1 ∷ 0 ∷ 0 ∷ 1 ∷ [])) 20) ≡ tainted_event
  pub builder_took_nothing : events_in (call_run building 0 [] (empty_world []) 20) ≡ clean_event
  -- a callee taints a node and unlinks it, and its caller still has it
  pub unlinked_writes : written_in (call_run unlinking 1 [] (empty_world []) 40) ≡ 0 ∷ 1 ∷ 0 ∷ []
  pub unlinked_node : events_in (call_run unlinking 1 [] (empty_world []) 40) ≡ tainted_event
  -- a tainted exception is caught
  pub caught_exception : events_in (call_run (catching Everything) 0 [] (empty_world (0 ∷ 0 ∷ 1 ∷ 1 ∷ [])) 20) ≡ tainted_event
  -- a handler of a library class catches it or lets it pass
  pub caught_by_library_class : events_in (call_run (catching InLibrary) 0 [] (empty_world (0 ∷ 0 ∷ 1 ∷ 1 ∷ 0 ∷ 0 ∷ 0 ∷ 0 ∷ [])) 20) ≡ tainted_event
  pub passed_library_class : events_in (call_run (catching InLibrary) 0 [] (empty_world (0 ∷ 0 ∷ 1 ∷ 1 ∷ 0 ∷ 0 ∷ 0 ∷ 1 ∷ [])) 20) ≡ []
  -- what a callee throws leaves it and is caught by its caller; a run that ends with its last step is not cut
  pub caught_from_callee : events_in (call_run throwing 1 [] (empty_world []) 20) ≡ tainted_event
  pub thrown_out : call_run throwing 0 [] (empty_world []) 2 ≡ Threw 0 (before 1 []) with_marked_text 0
  pub cut_before : call_run throwing 0 [] (empty_world []) 1 ≡ Cut (before 1 (Ref 0 ∷ [])) [] with_marked_text
  -- a mix of a reference is stuck, and so is a text after which no instruction comes, with the world from before it
  pub mix_of_reference : call_run (running (at 0 (Const R) (1 ∷ []) 0 ∷ at 1 (Mix 1 P1 false) (2 ∷ []) 1 ∷ at 2 (Return None) [] 1 ∷ [])) 0 [] (empty_world []) 20 ≡ Stuck (before 1 (Null ∷ [])) [] (empty_world [])
  pub text_without_next : call_run (running (at 0 Text [] 0 ∷ [])) 0 [] (empty_world []) 20 ≡ Stuck (before 0 []) [] (empty_world [])
  -- a class initialiser runs before the field is read, or does not, or runs twice
  pub initialized : events_in (call_run (initializing tainting) 0 [] (null_field (1 ∷ [])) 20) ≡ tainted_event
  pub not_initialized : events_in (call_run (initializing tainting) 0 [] (null_field []) 20) ≡ clean_event
  pub initialized_twice : events_in (call_run (initializing tainting) 0 [] (null_field (1 ∷ 0 ∷ 0 ∷ 1 ∷ [])) 20) ≡ tainted_event
  -- the frame is as dirty then; the call of the initialiser and its six instructions are seven steps
  pub initializer_dirties : dirt_in (call_run (initializing dirtying) 0 [] (null_field (1 ∷ [])) 7) ≡ 1
  -- where it throws the run is over, also with its last step
  pub initializer_throws : call_run (initializing failing) 0 [] (null_field (1 ∷ [])) 20 ≡ failed_run
  pub initializer_throws_last : call_run (initializing failing) 0 [] (null_field (1 ∷ [])) 3 ≡ failed_run
  pub cut_in_initializer : call_run (initializing failing) 0 [] (null_field (1 ∷ [])) 2 ≡ Cut (beginning 1 1 (Null ∷ [])) (beginning 0 0 [] ∷ []) (null_field [])
  pub cut_before_choice : call_run (initializing failing) 0 [] (null_field (1 ∷ [])) 0 ≡ Cut (beginning 0 0 []) [] (null_field (1 ∷ []))
  -- a class initialiser of an entry's class is an action too; a call that fails ends the program run
  pub initializing_action : events_of (program_run (initializing tainting) (Initialize 0 0 20 [] ∷ CallEntry 0 [] 20 [] ∷ [])) ≡ tainted_event
  pub without_action : events_of (program_run (initializing tainting) (CallEntry 0 [] 20 [] ∷ [])) ≡ clean_event
  pub nothing_after_failure : events_of (program_run (initializing failing) (CallEntry 0 [] 20 (1 ∷ []) ∷ CallEntry 0 [] 20 [] ∷ [])) ≡ []
  -- a text with a mark of the second category alone is tainted for the sink of that category
  pub marked_for_pages : events_in (call_run (in_two_categories (false ∷ true ∷ [])) 0 [] (empty_world []) 20) ≡ record { site = 0; positions = [] } ∷ record { site = 1; positions = 0 ∷ [] } ∷ []
  pub marked_for_both : events_in (call_run (in_two_categories (true ∷ true ∷ [])) 0 [] (empty_world []) 20) ≡ record { site = 0; positions = 0 ∷ [] } ∷ record { site = 1; positions = 0 ∷ [] } ∷ []
  -- an entry reads what an earlier one stored into an object that both were given
  pub shared_object :
      events_of (program_run sharing (Make 0 0 none [] [] ∷ CallEntry 0 (GiveObject 0 ∷ []) 20 (0 ∷ 1 ∷ 1 ∷ []) ∷ CallEntry 1 (GiveObject 0 ∷ []) 20 [] ∷ []))
      ≡ tainted_event
  pub before_it_was_stored :
      events_of (program_run sharing (Make 0 0 none [] [] ∷ CallEntry 1 (GiveObject 0 ∷ []) 20 [] ∷ CallEntry 0 (GiveObject 0 ∷ []) 20 (0 ∷ 1 ∷ 1 ∷ []) ∷ []))
      ≡ clean_event
  -- a marked object goes to no position that is not marked
  pub marked_is_not_given : events_of (program_run sharing (Make 0 0 1 [] [] ∷ CallEntry 1 (GiveObject 0 ∷ []) 20 [] ∷ [])) ≡ []
  -- what the environment may not do is refused: a class initialiser where the class has none, a receiver for a static entry, an object that it
  -- has not, a noted object at a position without a mark
  pub no_initializer : attempt sharing nothing_yet (Initialize 0 0 20 []) ≡ Refused
  pub no_receiver : attempt sharing nothing_yet (Create 0 20 []) ≡ Refused
  pub no_such_object : attempt sharing nothing_yet (CallEntry 1 (GiveObject 0 ∷ []) 20 []) ≡ Refused
  pub noted_object : attempt sharing (one_object 1) (CallEntry 1 (GiveObject 0 ∷ []) 20 []) ≡ Refused
  -- a marked position may get what is noted in a category of the entry's marks, and nothing that is noted in another
  pub noted_in_category : has_returned (attempt receiving (one_object 1) (CallEntry 0 (GiveObject 0 ∷ []) 20 [])) ≡ true
  pub noted_in_another : attempt receiving (one_object 2) (CallEntry 0 (GiveObject 0 ∷ []) 20 []) ≡ Refused
  pub noted_in_both : attempt receiving (one_object 3) (CallEntry 0 (GiveObject 0 ∷ []) 20 []) ≡ Refused
  -- what is made with a noted object in its bag is noted in its categories too
  pub made_round : noted_after (attempt receiving (one_object 1) (Make 0 0 2 ((0 ∷ []) ∷ []) [])) ≡ 1 ∷ 3 ∷ []
  pub object_made : attempt sharing nothing_yet (Make 0 0 1 [] []) ≡ MadeNew (Ref 0) (one_object 1)
  pub null_given : has_returned (attempt sharing nothing_yet (CallEntry 1 (GiveNull ∷ []) 20 [])) ≡ true

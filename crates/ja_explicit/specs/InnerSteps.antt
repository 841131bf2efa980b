-- What follows of a fact by one rule of the equations, as lists of facts in words.
use Rattle.std.specs.Prelude.{ℕ, ◌+◌, ◌-◌, ◌==◌, ◌&&◌, ◌||◌, not, Bool, true, false, List, [], ◌∷◌, ◌++◌, Option, Some, None, length, slice_get, slice_index_or, if◌then◌else◌}
use Rattle.std.specs.List.{list_any}
use Rattle.ja_base.specs.declared.java_type.Kind.{Kind}
use Rattle.ja_base.specs.declared.java_type.Kind.TheVariants.{P1, P2, R, T}
use Rattle.ja_base.specs.declared.id.MethodId.{MethodId}
use Rattle.ja_ir.specs.declared.program.Parts.{Parts}
use Rattle.ja_ir.specs.declared.method.Method.{Method}
use Rattle.ja_ir.specs.declared.method.Instr.{Instr}
use Rattle.ja_ir.specs.declared.op.CallOp.{CallOp}
use Rattle.ja_ir.specs.declared.op.Op.{Op}
use Rattle.ja_ir.specs.declared.op.Op.TheVariants.{ArrStore, Return, GetStatic, PutStatic, GetField, PutField, Call}
use Rattle.ja_ir.specs.Operations.{arguments}
use Rattle.ja_ir.specs.Tokens.{rarr_token, parr_token}
use Rattle.ja_ir.specs.Handlers.{Place, Inside, Outside, dest_among}
use Rattle.ja_ir.specs.Initializing.{inits_of}
use Rattle.ja_facts.specs.declared.facts.Facts.{Facts}
use Rattle.ja_facts.specs.ClassTables.{token_count, thrown_set}
use Rattle.ja_facts.specs.FactTables.{targets_at, takers_at, cell_count}
use Rattle.ja_facts.specs.Slots.{Slot, OnStack}
use Rattle.ja_facts.specs.Crossings.{has_result}
use Rattle.ja_facts.specs.Formulas.{Assignment, any_below, put_in}
use Rattle.ja_work.specs.declared.way.Way.{Way}
use Rattle.ja_work.specs.declared.way.Way.TheVariants.{Clean, Thrown, InLibrary}
use Rattle.ja_work.specs.Ends.{Tests, may_go_on, normal_clauses, may_end, exceptional_clauses, return_clauses, throw_clauses, caught_clauses}
use Rattle.ja_work.specs.Told.{tests_of, affected_of, is_empty}
use Rattle.ja_clauses.specs.declared.summary.Summary.{Summary}
use Rattle.ja_clauses.specs.Slots.{as_summary}
use Rattle.ja_explicit.specs.declared.item.Item.{Item}
use Rattle.ja_explicit.specs.declared.item.Item.TheVariants.{Context, At, Normal, Threw, Stored}
use Rattle.ja_explicit.specs.contracts.item.ItemPartialEq.TheImpl as items
use Rattle.ja_explicit.specs.InnerWords.{over, says, next_words, handed_clauses}

-- whether two facts are the same, as `==` compares them
abbrev pub same_item : Item → Item → Bool
same_item = items.ghosts.eq

-- the fact is listed
abbrev pub has : List Item → Item → Bool
has items x = list_any (same_item x) items

-- something tainted may have been stored into the cell of a number
abbrev pub stores : List Item → (cell : ℕ) → Bool
stores items cell = has items (Stored cell)

-- a method, its number, and the words of its parameters and of its present assignment
pub record Standing : Type 0 where
  pub method : Method
  pub m : ℕ
  pub a : ℕ
  pub b : ℕ

-- the present assignment
abbrev pub present : Standing → Assignment
present s = says s.method s.b

-- instructions are come to with a word, and with each of some words
abbrev pub at_each : (m a w : ℕ) → List ℕ → List Item
at_each m a w [] = []
at_each m a w (j ∷ js) = At m j a w ∷ at_each m a w js

abbrev pub at_all : (m a : ℕ) → (js ws : List ℕ) → List Item
at_all m a js [] = []
at_all m a js (w ∷ ws) = at_each m a w js ++ at_all m a js ws

-- an exception that left the word goes to a place, to each of some places, and so does each of some words
abbrev pub lands_at : Standing → (w : ℕ) → Place → List Item
lands_at s w (Inside j) = at_all s.m s.a (j ∷ []) (next_words s.method caught_clauses (says s.method w))
lands_at s w Outside = Threw s.m s.a (says s.method w).dirt (says s.method w).exc ∷ []

abbrev pub lands_each : Standing → (w : ℕ) → List Place → List Item
lands_each s w [] = []
lands_each s w (place ∷ places) = lands_at s w place ++ lands_each s w places

abbrev pub lands_all : Standing → List Place → (ws : List ℕ) → List Item
lands_all s places [] = []
lands_all s places (w ∷ ws) = lands_each s w places ++ lands_all s places ws

-- where an exception of a token goes that is in a set of what is thrown
abbrev pub places_of_token : Parts → (thrown : List Bool) → Method → (i t : ℕ) → List Place
places_of_token p thrown method i t = if slice_index_or thrown t false then dest_among p i t method.handlers else []

-- where what an instruction throws goes
abbrev pub places_of : Parts → Facts → (m i : ℕ) → Method → List Place
places_of p f m i method = over (places_of_token p (thrown_set f.sets m i) method i) 0 (token_count p)

-- the words that an exceptional end of a way leaves
abbrev pub words_by : Way → Standing → Tests → Op → (height : ℕ) → List ℕ
words_by way s tests op height = if may_end tests op way then next_words s.method (exceptional_clauses way tests op height) (present s) else []

-- what follows of the exceptional ends
abbrev pub throws : Standing → List Place → Tests → Op → (height : ℕ) → List Item
throws s places tests op height =
    lands_all s places (words_by Clean s tests op height)
    ++ (lands_all s places (words_by Thrown s tests op height) ++ lands_all s places (words_by InLibrary s tests op height))

-- the field that the operation reads, and where what it read is then
abbrev pub read_field : Op → Option ℕ
read_field (GetField f) = Some f.0
read_field (GetStatic f) = Some f.0
read_field _ = None

abbrev pub read_slot : Op → (height : ℕ) → Slot
read_slot (GetField f) height = OnStack (height - 1)
read_slot op height = OnStack height

-- by what was stored, the field may hold something tainted
abbrev pub answers : Parts → Facts → List Item → (field : ℕ) → Bool
answers p f items field = stores items field || any_below (λ c. slice_index_or (slice_index_or f.holds.fields field []) c false && stores items c) (cell_count p)

-- nothing is read as true that cannot be
abbrev pub is_readable : Option ℕ → Parts → Facts → List Item → Method → Slot → (w : ℕ) → Bool
is_readable None p f items method z w = true
is_readable (Some field) p f items method z w = not ((says method w).slot z) || answers p f items field

abbrev pub passing : (ℕ → Bool) → List ℕ → List ℕ
passing test [] = []
passing test (w ∷ ws) = (if test w then w ∷ [] else []) ++ passing test ws

-- the words that the normal end leaves
abbrev pub normal_words : Standing → Tests → Op → (height : ℕ) → List ℕ
normal_words s tests op height = if may_go_on tests op then next_words s.method (normal_clauses tests op height) (present s) else []

-- what follows of the normal end
abbrev pub goes_on : Parts → Facts → List Item → Standing → Tests → Op → (height : ℕ) → (next : List ℕ) → List Item
goes_on p f items s tests op height next = at_all s.m s.a next (passing (is_readable (read_field op) p f items s.method (read_slot op height)) (normal_words s tests op height))

-- a way through method n with a word of parameters: over how many values it is entered, whether it answers, what it may change, at which
-- instructions control comes back, and where exceptions go
pub record Passage : Type 0 where
  pub n : ℕ
  pub c : ℕ
  pub under : ℕ
  pub answers : Bool
  pub affected : Slot → Bool
  pub next : List ℕ
  pub places : List Place

-- what follows where the method returns, and where it throws
abbrev pub returns_with : Standing → Passage → Summary → List Item
returns_with s w summary = at_all s.m s.a w.next (next_words s.method (return_clauses w.affected w.under w.answers (as_summary summary)) (present s))

abbrev pub throws_with : Standing → Passage → Summary → List Item
throws_with s w summary = lands_all s w.places (next_words s.method (throw_clauses w.affected (as_summary summary)) (present s))

-- what follows where a fact tells an end of the method
abbrev pub ends_with : Standing → Passage → Item → List Item
ends_with s w (Normal n c result dirt) = if (n == w.n) && (c == w.c) then returns_with s w (record { result = result; dirt = dirt; exc = false }) else []
ends_with s w (Threw n c dirt exc) = if (n == w.n) && (c == w.c) then throws_with s w (record { result = false; dirt = dirt; exc = exc }) else []
ends_with s w (Context n c) = []
ends_with s w (At n i c d) = []
ends_with s w (Stored cell) = []

abbrev pub ends_with_each : Standing → Passage → List Item → List Item
ends_with_each s w [] = []
ends_with_each s w (item ∷ items) = ends_with s w item ++ ends_with_each s w items

-- what follows of a way through a method
abbrev pub goes_through : List Item → Standing → Passage → List Item
goes_through items s w = Context w.n w.c ∷ ends_with_each s w items

-- a way through a class initialiser before instruction i
abbrev pub init_passage : Parts → Facts → (m i height n : ℕ) → Passage
init_passage p f m i height n = record { n = n; c = 0; under = height; answers = false; affected = affected_of p f m i n 0 height; next = i ∷ []; places = [] }

abbrev pub initializes : Parts → Facts → List Item → Standing → (i height : ℕ) → List MethodId → List Item
initializes p f items s i height [] = []
initializes p f items s i height (n ∷ inits) = goes_through items s (init_passage p f s.m i height n.0) ++ initializes p f items s i height inits

-- a way through a target of a call
abbrev pub call_passage : Parts → Facts → (m i : ℕ) → (next : List ℕ) → (places : List Place) → CallOp → (under n c : ℕ) → Passage
call_passage p f m i next places call under n c = record {
  n = n;
  c = c;
  under = under;
  answers = has_result call.result;
  affected = affected_of p f m i n (arguments call) under;
  next = next;
  places = places;
}

abbrev pub calls_with : Parts → Facts → List Item → Standing → (i : ℕ) → (next : List ℕ) → (places : List Place) → CallOp → (under n : ℕ) → (cs : List ℕ) → List Item
calls_with p f items s i next places call under n [] = []
calls_with p f items s i next places call under n (c ∷ cs) = goes_through items s (call_passage p f s.m i next places call under n c) ++ calls_with p f items s i next places call under n cs

-- what follows of a call of a method, if there is one with code
abbrev pub calls_method : Parts → Facts → List Item → Standing → (i : ℕ) → (next : List ℕ) → (places : List Place) → CallOp → (under n : ℕ) → Option Method → List Item
calls_method p f items s i next places call under n None = []
calls_method p f items s i next places call under n (Some callee) =
    if is_empty callee.code then []
    else calls_with p f items s i next places call under n (next_words callee (handed_clauses callee (arguments call) under (present s)) (present s))

abbrev pub calls_each : Parts → Facts → List Item → Standing → (i : ℕ) → (next : List ℕ) → (places : List Place) → CallOp → (under : ℕ) → (targets : List ℕ) → List Item
calls_each p f items s i next places call under [] = []
calls_each p f items s i next places call under (n ∷ targets) =
    calls_method p f items s i next places call under n (slice_get p.methods n) ++ calls_each p f items s i next places call under targets

abbrev pub calls : Parts → Facts → List Item → Standing → (i : ℕ) → (next : List ℕ) → (places : List Place) → Op → (height : ℕ) → List Item
calls p f items s i next places (Call call) height = calls_each p f items s i next places call (height - arguments call) (targets_at f.graph s.m i).methods
calls p f items s i next places op height = []

-- a return
abbrev pub returns : Standing → Op → (height : ℕ) → List Item
returns s (Return (Some kind)) height = Normal s.m s.a ((present s).slot (OnStack (height - 1))) (present s).dirt ∷ []
returns s (Return None) height = Normal s.m s.a false (present s).dirt ∷ []
returns s op height = []

-- the number of the bags of a token
abbrev pub bag : Parts → (token : ℕ) → ℕ
bag p token = length p.fields + token

-- the number of the cell into which an operation stores
abbrev pub stored_cell : Parts → Op → Option ℕ
stored_cell p (PutField f) = Some f.0
stored_cell p (PutStatic f) = Some f.0
stored_cell p (ArrStore R) = Some (bag p (rarr_token p))
stored_cell p (ArrStore P1) = Some (bag p (parr_token p))
stored_cell p (ArrStore P2) = Some (bag p (parr_token p))
stored_cell p (ArrStore T) = None
stored_cell p op = None

abbrev pub stored_if : Option ℕ → Bool → List Item
stored_if None truth = []
stored_if (Some cell) truth = if truth then Stored cell ∷ [] else []

-- a write
abbrev pub writes : Parts → Standing → Op → (height : ℕ) → List Item
writes p s op height = stored_if (stored_cell p op) ((present s).slot (OnStack (height - 1)))

-- the takers of a library call
abbrev pub takes_by : Parts → (takers : List Bool) → (token : ℕ) → List Item
takes_by p takers token = if slice_index_or takers token false then Stored (bag p token) ∷ [] else []

abbrev pub takes_all : Parts → (takers : List Bool) → List Item
takes_all p takers = over (takes_by p takers) 0 (token_count p)

abbrev pub takes : Parts → Facts → Standing → (i : ℕ) → Op → (height : ℕ) → List Item
takes p f s i (Call call) height = if put_in (present s) call (height - arguments call) then takes_all p (takers_at f.graph s.m i) else []
takes p f s i op height = []

-- what follows where an operation is come to, by the tests and the places of its instruction
abbrev pub runs_by : Parts → Facts → List Item → Standing → (i : ℕ) → Tests → List Place → Op → (height : ℕ) → (next : List ℕ) → List Item
runs_by p f items s i tests places op height next =
    goes_on p f items s tests op height next
    ++ (throws s places tests op height
    ++ (initializes p f items s i height (inits_of p op)
    ++ (calls p f items s i next places op height
    ++ (returns s op height ++ (writes p s op height ++ takes p f s i op height)))))

-- what follows where an instruction is come to
abbrev pub runs : Parts → Facts → List Item → Standing → (i : ℕ) → Instr → List Item
runs p f items s i instr = runs_by p f items s i (tests_of p f s.m i) (places_of p f s.m i s.method) instr.op instr.height instr.next

abbrev pub runs_reached : Parts → Facts → List Item → Standing → (i : ℕ) → Option Instr → List Item
runs_reached p f items s i None = []
runs_reached p f items s i (Some instr) = if instr.reached then runs p f items s i instr else []

abbrev pub runs_in : Parts → Facts → List Item → (m i a b : ℕ) → Option Method → List Item
runs_in p f items m i a b None = []
runs_in p f items m i a b (Some method) = runs_reached p f items (record { method = method; m = m; a = a; b = b }) i (slice_get method.code i)

-- what follows of a fact, beside others that are listed
abbrev pub follows : Parts → Facts → List Item → Item → List Item
follows p f items (Context m a) = At m 0 a a ∷ []
follows p f items (At m i a b) = runs_in p f items m i a b (slice_get p.methods m)
follows p f items (Normal m a result dirt) = []
follows p f items (Threw m a dirt exc) = []
follows p f items (Stored cell) = []

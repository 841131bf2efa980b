-- Which slots may be tainted where: contexts, assignments at instructions, summaries and stored taint, as one least set of facts.
use Rattle.std.specs.Prelude.{◌≡◌, ℕ, suc, ◌<◌, ◌⊎◌, Bool, true, false, List, [], ◌∷◌, Some, None, Contains, slice_get}
use Rattle.ja_base.specs.declared.java_type.Kind.{Kind}
use Rattle.ja_base.specs.declared.java_type.Kind.TheVariants.{P1, P2, R}
use Rattle.ja_ir.specs.declared.program.Parts.{Parts}
use Rattle.ja_ir.specs.declared.method.Method.{Method}
use Rattle.ja_ir.specs.declared.entry.Entry.{Entry}
use Rattle.ja_ir.specs.declared.entry.Site.{Site}
use Rattle.ja_ir.specs.declared.op.CallOp.{CallOp}
use Rattle.ja_ir.specs.declared.op.Op.{Op}
use Rattle.ja_ir.specs.declared.op.Op.TheVariants.{ArrStore, Return, GetStatic, PutStatic, GetField, PutField}
use Rattle.ja_ir.specs.Lookup.{OpAt, Leads}
use Rattle.ja_ir.specs.Operations.{arguments}
use Rattle.ja_ir.specs.Params.{IsReferenceParam, param_local, param_count}
use Rattle.ja_ir.specs.Tokens.{rarr_token, parr_token}
use Rattle.ja_ir.specs.Handlers.{dest, Inside, Outside}
use Rattle.ja_ir.specs.Initializing.{InitAt}
use Rattle.ja_ir.specs.Categories.{projected}
use Rattle.ja_facts.specs.Least.{Least}
use Rattle.ja_facts.specs.Slots.{Slot, Local, OnStack, CallAt, argument}
use Rattle.ja_facts.specs.Actions.{IsInitializer, IsConstructor, IsEntry, HasObjects}
use Rattle.ja_facts.specs.ClassSets.{InThrown, InParam, CallsMethod, Takes}
use Rattle.ja_facts.specs.Held.{TokenHolds, FieldHolds, Cell, OfField, OfBag}
use Rattle.ja_facts.specs.Crossings.{has_result}
use Rattle.ja_facts.specs.Analyses.{Analyses, analyses_of}
use Rattle.ja_facts.specs.Formulas.{Assignment, Summary, put_in, IsNormalEnd, IsExceptionalEnd, IsReturn, IsCallThrown}

-- what the equations say of taint
pub data Fact : Type 0 where
  -- method m may be called with these parameters true, each in its first local
  Context : (m : ℕ) (a : Assignment) → Fact
  -- from the parameters a, instruction i of method m may be come to with the assignment b
  At : (m i : ℕ) (a b : Assignment) → Fact
  -- from the parameters a, method m may return, or throw, so
  Normal : (m : ℕ) (a : Assignment) (s : Summary) → Fact
  Threw : (m : ℕ) (a : Assignment) (s : Summary) → Fact
  -- something tainted may have been stored into the field, or into the bag
  Stored : (c : Cell) → Fact

-- nothing is true in the assignment, and nothing tainted was stored
pub record IsNothing (a : Assignment) : Type 0 where
  pub slots : (z : Slot) → a.slot z ≡ false
  pub dirt : a.dirt ≡ false
  pub exc : a.exc ≡ false

-- a list of stored facts
abbrev pub stored_facts : List Cell → List Fact
stored_facts [] = []
stored_facts (c ∷ cells) = Stored c ∷ stored_facts cells

-- parameter k of method m is a reference to objects that may reach the cell
pub record MayReach (A : Analyses) (m : ℕ) (method : Method) (k : ℕ) (cell : Cell) : Type 0 where
  pub reference : IsReferenceParam method k
  pub token : ℕ
  pub inside : A.classes (InParam m k token)
  pub holds : A.held (TokenHolds token cell)

-- parameter k of method m may be true where something tainted was stored into these cells: its objects may reach one of them
pub record HoldsStored (A : Analyses) (m : ℕ) (method : Method) (k : ℕ) (cells : List Cell) : Type 0 where
  pub cell : Cell
  pub listed : Contains cells cell
  pub reaches : MayReach A m method k cell

-- the slot is that of a parameter that may be true in a call by the environment: a marked one, or one whose objects may reach what was stored
pub record MayBeTrue (A : Analyses) (entry : Entry) (method : Method) (cells : List Cell) (z : Slot) : Type 0 where
  pub k : ℕ
  pub below : k < param_count method
  pub is_slot : z ≡ Local (param_local method k)
  pub why : Contains entry.marked k ⊎ HoldsStored A entry.method.0 method k cells

-- the cell is a reason for a true parameter: its position is not marked, and its objects may reach the cell
pub record IsReason (A : Analyses) (entry : Entry) (method : Method) (a : Assignment) (cell : Cell) : Type 0 where
  pub k : ℕ
  pub below : k < param_count method
  pub is_true : a.slot (Local (param_local method k)) ≡ true
  pub unmarked : Contains entry.marked k → ⊥
  pub reaches : MayReach A entry.method.0 method k cell

-- none is listed twice
abbrev pub AreDistinct : List Cell → Type 0
AreDistinct [] = Unit {0}
AreDistinct (c ∷ cells) = (Contains cells c → ⊥) × AreDistinct cells

-- the environment may call the entry with these parameters true where something tainted was stored into each of these cells, and each of them
-- is a reason for it
pub record MayBegin (p : Parts) (A : Analyses) (entry : Entry) (a : Assignment) (cells : List Cell) : Type 0 where
  pub method : Method
  pub is_entry : IsEntry p entry method
  pub parameters : (z : Slot) → a.slot z ≡ true → MayBeTrue A entry method cells z
  pub reasons : (c : Cell) → Contains cells c → IsReason A entry method a c
  pub once : AreDistinct cells
  pub dirt : a.dirt ≡ false
  pub exc : a.exc ≡ false

-- the parameters of a call of the method are true as the arguments are
pub record HandsOver (method : Method) (call : CallOp) (under : ℕ) (b a : Assignment) : Type 0 where
  pub each : (k : ℕ) → k < arguments call → a.slot (Local (param_local method k)) ≡ b.slot (argument under k)
  pub others : (z : Slot) → ((k : ℕ) → k < arguments call → z ≡ Local (param_local method k) → ⊥) → a.slot z ≡ false
  pub dirt : a.dirt ≡ false
  pub exc : a.exc ≡ false

-- the operation reads the field into the slot
pub data Reads : Op → (height : ℕ) → (f : ℕ) → Slot → Type 0 where
  reads_field : {f height k : ℕ} → height ≡ suc k → Reads (GetField (record { 0 = f })) height f (OnStack k)
  reads_static : {f height : ℕ} → Reads (GetStatic (record { 0 = f })) height f (OnStack height)

-- by what was stored into the cell, the field may hold something tainted: it is the field, or what the field refers to may reach it
pub data Answers (A : Analyses) (f : ℕ) : Cell → Type 0 where
  itself : Answers A f (OfField f)
  held : {c : Cell} → A.held (FieldHolds f c) → Answers A f c

-- at a handler, the locals stay and what was thrown is alone on the stack
pub record IsCaught (b after : Assignment) : Type 0 where
  pub locals : (l : ℕ) → after.slot (Local l) ≡ b.slot (Local l)
  pub first : after.slot (OnStack 0) ≡ b.exc
  pub rest : (k : ℕ) → after.slot (OnStack (suc k)) ≡ false
  pub dirt : after.dirt ≡ b.dirt
  pub exc : after.exc ≡ false

-- a call of method n in instruction i of method m, at the assignment b, which gives the method the parameters a
pub record Calls (p : Parts) (A : Analyses) (m i n : ℕ) (call : CallOp) (under : ℕ) (b a : Assignment) : Type 0 where
  pub at : CallAt p m i call under
  pub goes : A.classes (CallsMethod m i n)
  pub method : Method
  pub found : slice_get p.methods n ≡ Some method
  pub hands : HandsOver method call under b a

-- the operation stores what is in the slot into the cell
pub data Stores (p : Parts) : Op → (height : ℕ) → Cell → Slot → Type 0 where
  stores_field : {f height k : ℕ} → height ≡ suc (suc k) → Stores p (PutField (record { 0 = f })) height (OfField f) (OnStack (suc k))
  stores_static : {f height k : ℕ} → height ≡ suc k → Stores p (PutStatic (record { 0 = f })) height (OfField f) (OnStack k)
  stores_reference : {height k : ℕ} → height ≡ suc (suc (suc k)) → Stores p (ArrStore R) height (OfBag (rarr_token p)) (OnStack (suc (suc k)))
  stores_word : {height k : ℕ} → height ≡ suc (suc (suc k)) → Stores p (ArrStore P1) height (OfBag (parr_token p)) (OnStack (suc (suc k)))
  stores_pair : {height k : ℕ} → height ≡ suc (suc (suc k)) → Stores p (ArrStore P2) height (OfBag (parr_token p)) (OnStack (suc (suc k)))

-- what is told of an exceptional end that leaves the method
abbrev pub thrown_summary : Assignment → Summary
thrown_summary b = record { result = false; dirt = b.dirt; exc = b.exc }

-- what is told of a return of this truth
abbrev pub return_summary : Bool → Assignment → Summary
return_summary value b = record { result = value; dirt = b.dirt; exc = false }

-- from these facts comes this fact, for what is known of the program
pub data Rule (p : Parts) (A : Analyses) : List Fact → Fact → Type 0 where
  -- the environment runs a class initialiser or a constructor with nothing true, and calls an entry
  initializer_called : {m : ℕ} {a : Assignment} → IsInitializer p m → IsNothing a → Rule p A [] (Context m a)
  constructor_called : {m : ℕ} {a : Assignment} (entry : Entry) → HasObjects p entry → IsConstructor p entry.class.0 m → IsNothing a → Rule p A [] (Context m a)
  entry_called : {a : Assignment} (entry : Entry) (cells : List Cell) → MayBegin p A entry a cells → Rule p A (stored_facts cells) (Context entry.method.0 a)
  -- a call runs a method with the arguments, and an initialising step a class initialiser with nothing true
  called : {m i n under : ℕ} {call : CallOp} {c b a : Assignment} → Calls p A m i n call under b a → Rule p A (At m i c b ∷ []) (Context n a)
  initialized : {m i n : ℕ} {c b a : Assignment} → InitAt p m i n → IsNothing a → Rule p A (At m i c b ∷ []) (Context n a)
  begins : {m : ℕ} {a : Assignment} → Rule p A (Context m a ∷ []) (At m 0 a a)
  -- a normal end at which nothing true is read of a field
  steps : {m i j height : ℕ} {op : Op} {a b after : Assignment} → OpAt p m i op height → Leads p m i j → IsNormalEnd p A m i b after
      → ((f : ℕ) (r : Slot) → Reads op height f r → after.slot r ≡ false) → Rule p A (At m i a b ∷ []) (At m j a after)
  -- one at which something true is read of a field: something tainted was stored into a cell by which the field may hold it
  reads_stored_field : {m i j f height : ℕ} {op : Op} {r : Slot} {a b after : Assignment} {cell : Cell} → OpAt p m i op height → Leads p m i j → IsNormalEnd p A m i b after
      → Reads op height f r → after.slot r ≡ true → Answers A f cell → Rule p A (At m i a b ∷ Stored cell ∷ []) (At m j a after)
  -- a method has returned: a call goes on behind it, and after an initialising step its instruction is come to again
  call_resumes : {m i j n under : ℕ} {call : CallOp} {a b c after : Assignment} {s : Summary} → Calls p A m i n call under b c → Leads p m i j
      → IsReturn A m i n (arguments call) under (has_result call.result) b s after → Rule p A (At m i a b ∷ Normal n c s ∷ []) (At m j a after)
  initializer_resumes : {m i n height : ℕ} {op : Op} {a b c after : Assignment} {s : Summary} → OpAt p m i op height → InitAt p m i n → IsNothing c
      → IsReturn A m i n 0 height false b s after → Rule p A (At m i a b ∷ Normal n c s ∷ []) (At m i a after)
  -- an exceptional end that is caught, of the operation itself and of a method that was called
  caught : {m i j t : ℕ} {a b thrown after : Assignment} → A.classes (InThrown m i t) → Contains (dest p m i t) (Inside j) → IsExceptionalEnd p A m i b thrown
      → IsCaught thrown after → Rule p A (At m i a b ∷ []) (At m j a after)
  callee_caught : {m i j n t under : ℕ} {call : CallOp} {a b c thrown after : Assignment} {s : Summary} → Calls p A m i n call under b c → A.classes (InThrown m i t)
      → Contains (dest p m i t) (Inside j) → IsCallThrown A m i n (arguments call) under b s thrown → IsCaught thrown after
      → Rule p A (At m i a b ∷ Threw n c s ∷ []) (At m j a after)
  -- and one that leaves the method
  leaves : {m i t : ℕ} {a b thrown : Assignment} → A.classes (InThrown m i t) → Contains (dest p m i t) Outside → IsExceptionalEnd p A m i b thrown
      → Rule p A (At m i a b ∷ []) (Threw m a (thrown_summary thrown))
  callee_leaves : {m i n t under : ℕ} {call : CallOp} {a b c thrown : Assignment} {s : Summary} → Calls p A m i n call under b c → A.classes (InThrown m i t)
      → Contains (dest p m i t) Outside → IsCallThrown A m i n (arguments call) under b s thrown
      → Rule p A (At m i a b ∷ Threw n c s ∷ []) (Threw m a (thrown_summary thrown))
  -- a return, with a result and without one
  method_returns : {m i k : ℕ} {kind : Kind} {a b : Assignment} → OpAt p m i (Return (Some kind)) (suc k)
      → Rule p A (At m i a b ∷ []) (Normal m a (return_summary (b.slot (OnStack k)) b))
  method_ends : {m i height : ℕ} {a b : Assignment} → OpAt p m i (Return None) height → Rule p A (At m i a b ∷ []) (Normal m a (return_summary false b))
  -- what is stored, by a write and by a library call
  stored : {m i height : ℕ} {op : Op} {cell : Cell} {v : Slot} {a b : Assignment} → OpAt p m i op height → Stores p op height cell v → b.slot v ≡ true
      → Rule p A (At m i a b ∷ []) (Stored cell)
  taken : {m i t under : ℕ} {call : CallOp} {a b : Assignment} → CallAt p m i call under → A.classes (Takes m i t) → put_in b call under ≡ true
      → Rule p A (At m i a b ∷ []) (Stored (OfBag t))

-- the equations of category c: those of the program of the category, with what is known of the program itself
abbrev pub Rules : Parts → (c : ℕ) → List Fact → Fact → Type 0
Rules p c = Rule (projected c p) (analyses_of p)

-- what may be tainted in category c: their least solution
abbrev pub Taints : Parts → (c : ℕ) → Fact → Type 0
Taints p c = Least (Rules p c)

-- a site is warned: some assignment before its instruction makes one of its positions true
pub record IsWarned (p : Parts) (S : Fact → Type 0) (site : Site) : Type 0 where
  pub call : CallOp
  pub under : ℕ
  pub at : CallAt p site.method.0 site.index call under
  pub a : Assignment
  pub b : Assignment
  pub fact : S (At site.method.0 site.index a b)
  pub k : ℕ
  pub listed : Contains site.positions k
  pub true_argument : b.slot (argument under k) ≡ true

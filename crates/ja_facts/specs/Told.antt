-- What tables tell: each as the set of the facts that it has.
use Rattle.std.specs.Prelude.{◌≡◌, ◌⊎◌, ◌↔◌, ℕ, ◌+◌, ◌<◌, Bool, true, List, [], Some, Contains, length, slice_get, slice_index_or}
use Rattle.ja_ir.specs.declared.program.Parts.{Parts}
use Rattle.ja_ir.specs.declared.method.Method.{Method}
use Rattle.ja_ir.specs.declared.op.CallOp.{CallOp}
use Rattle.ja_ir.specs.declared.method.Instr.{Instr}
use Rattle.ja_ir.specs.declared.op.CallKind.{CallKind}
use Rattle.ja_ir.specs.declared.op.CallKind.TheVariants.{Static, StaticField, MemberField}
use Rattle.ja_ir.specs.declared.op.Op.TheVariants.{Call}
use Rattle.ja_ir.specs.Lookup.{HasCode, OpAt, instr_at, is_static}
use Rattle.ja_ir.specs.Operations.{arguments}
use Rattle.ja_ir.specs.Params.{param_count}
use Rattle.ja_ir.specs.Tokens.{absorbs}
use Rattle.ja_sets.specs.Sets.{Has, HasPair}
use Rattle.ja_facts.specs.Slots.{Slot, Local, OnStack, argument}
use Rattle.ja_facts.specs.ClassSets.{Fact as ClassFact, Reached, InEnv, InSlot, InThrown, InParam, InResult, InOut, InField, InBag, CallsMethod, CallsAbstract, CallsLibrary, Spans, Takes, HasField, IsSource}
use Rattle.ja_facts.specs.Held.{Fact as HeldFact, TokenHolds, FieldHolds, Cell, OfField, OfBag}
use Rattle.ja_facts.specs.Sharing.{Fact as HeapFact, PairAt, PairWithin, Effect, Root, Arg, StaticFields, Name, OfSlot, Statics, Old, IsLive, LibraryCall}
use Rattle.ja_facts.specs.Reaching.{Fact as ReachFact, ReachAt, ReachWithin}
use Rattle.ja_facts.specs.ClassTables.{ClassTable, slot_set, thrown_set, param_set, result_set, out_set, field_set, bag_set}
use Rattle.ja_facts.specs.FactTables.{GraphTable, is_reached, targets_at, takers_at, slot_count, HeldTable, has_effect}

-- the slot has this number among the slots of the method: the locals come first, and then the values on the stack, from the bottom
pub data IsNumbered (method : Method) : Slot → ℕ → Type 0 where
  numbered_local : {l : ℕ} → l < method.locals → IsNumbered method (Local l) l
  numbered_stack : {n : ℕ} (k : ℕ) → k < method.stack → n ≡ method.locals + k → IsNumbered method (OnStack k) n

-- a slot of method m has this number
pub record SlotIs (p : Parts) (m : ℕ) (z : Slot) (n : ℕ) : Type 0 where
  pub method : Method
  pub found : slice_get p.methods m ≡ Some method
  pub numbered : IsNumbered method z n

-- method n is a target of the call, and has code
pub record GoesTo (p : Parts) (graph : GraphTable) (m i n : ℕ) : Type 0 where
  pub listed : Contains (targets_at graph m i).methods n
  pub method : Method
  pub found : slice_get p.methods n ≡ Some method
  pub code : HasCode method

-- method n is a target of the call, and has no code
pub record GoesToAbstract (p : Parts) (graph : GraphTable) (m i n : ℕ) : Type 0 where
  pub listed : Contains (targets_at graph m i).methods n
  pub method : Method
  pub found : slice_get p.methods n ≡ Some method
  pub none : method.code ≡ []

-- the token is in the set of the slot
pub record SlotHas (p : Parts) (sets : ClassTable) (m i : ℕ) (z : Slot) (t : ℕ) : Type 0 where
  pub n : ℕ
  pub is : SlotIs p m z n
  pub member : Has (slot_set sets m i n) t

-- an object of token t is or leads to one of the token, by the sets of fields and bags of a table
pub data LeadsBy (p : Parts) (sets : ClassTable) (t : ℕ) : ℕ → Type 0 where
  leads_itself : LeadsBy p sets t t
  leads_by_field : {u v : ℕ} (f : ℕ) → HasField p u f → Has (field_set sets f) v → LeadsBy p sets t u → LeadsBy p sets t v
  leads_by_bag : {u v : ℕ} → absorbs p u ≡ true → Has (bag_set sets u) v → LeadsBy p sets t u → LeadsBy p sets t v

-- the facts that class sets tell; what objects lead to follows from the sets of fields and bags
abbrev pub TellsSets : Parts → ClassTable → ClassFact → Type 0
TellsSets p sets (Reached m i) = ⊥
TellsSets p sets (InEnv t) = ⊥
TellsSets p sets (InSlot m i z t) = SlotHas p sets m i z t
TellsSets p sets (InThrown m i t) = Has (thrown_set sets m i) t
TellsSets p sets (InParam m k t) = Has (param_set sets m k) t
TellsSets p sets (InResult m t) = Has (result_set sets m) t
TellsSets p sets (InOut m t) = Has (out_set sets m) t
TellsSets p sets (InField f t) = Has (field_set sets f) t
TellsSets p sets (InBag b t) = Has (bag_set sets b) t
TellsSets p sets (CallsMethod m i n) = ⊥
TellsSets p sets (CallsAbstract m i n) = ⊥
TellsSets p sets (CallsLibrary m i) = ⊥
TellsSets p sets (Spans t u) = LeadsBy p sets t u
TellsSets p sets (Takes m i b) = ⊥

-- the facts that a call graph tells
abbrev pub TellsGraph : Parts → GraphTable → ClassFact → Type 0
TellsGraph p graph (Reached m i) = is_reached graph m i ≡ true
TellsGraph p graph (InEnv t) = ⊥
TellsGraph p graph (InSlot m i z t) = ⊥
TellsGraph p graph (InThrown m i t) = ⊥
TellsGraph p graph (InParam m k t) = ⊥
TellsGraph p graph (InResult m t) = ⊥
TellsGraph p graph (InOut m t) = ⊥
TellsGraph p graph (InField f t) = ⊥
TellsGraph p graph (InBag b t) = ⊥
TellsGraph p graph (CallsMethod m i n) = GoesTo p graph m i n
TellsGraph p graph (CallsAbstract m i n) = GoesToAbstract p graph m i n
TellsGraph p graph (CallsLibrary m i) = (targets_at graph m i).library ≡ true
TellsGraph p graph (Spans t u) = ⊥
TellsGraph p graph (Takes m i b) = Has (takers_at graph m i) b

-- the facts that both together tell
abbrev pub TellsClass : Parts → ClassTable → GraphTable → ClassFact → Type 0
TellsClass p sets graph f = TellsSets p sets f ⊎ TellsGraph p graph f

-- the fact is one of those that class sets tell
abbrev pub IsKeptSets : ClassFact → Type 0
IsKeptSets (InSlot m i z t) = Unit {0}
IsKeptSets (InThrown m i t) = Unit {0}
IsKeptSets (InParam m k t) = Unit {0}
IsKeptSets (InResult m t) = Unit {0}
IsKeptSets (InOut m t) = Unit {0}
IsKeptSets (InField f t) = Unit {0}
IsKeptSets (InBag b t) = Unit {0}
IsKeptSets (Spans t u) = Unit {0}
IsKeptSets _ = ⊥

-- the fact is one of those that a call graph tells
abbrev pub IsKeptGraph : ClassFact → Type 0
IsKeptGraph (Reached m i) = Unit {0}
IsKeptGraph (CallsMethod m i n) = Unit {0}
IsKeptGraph (CallsAbstract m i n) = Unit {0}
IsKeptGraph (CallsLibrary m i) = Unit {0}
IsKeptGraph (Takes m i b) = Unit {0}
IsKeptGraph _ = ⊥

-- the call is no access of a field
abbrev pub IsMethodCall : CallKind → Type 0
IsMethodCall StaticField = ⊥
IsMethodCall MemberField = ⊥
IsMethodCall _ = Unit {0}

-- instruction i of method m is a call, whether it is reached or not
pub record IsCallAt (p : Parts) (m i : ℕ) : Type 0 where
  pub call : CallOp
  pub height : ℕ
  pub at : OpAt p m i (Call call) height

-- method n is one that the call may go to: it has the call's name, descriptor and number of arguments, and is static exactly where the call is
pub record IsTargetOf (p : Parts) (call : CallOp) (n : ℕ) : Type 0 where
  pub method : Method
  pub found : slice_get p.methods n ≡ Some method
  pub is_name : method.name ≡ call.name
  pub is_desc : method.desc ≡ call.desc
  pub is_count : param_count method ≡ arguments call
  pub is_kind : (is_static method.flags ≡ true) ↔ (call.kind ≡ Static)
  pub no_access : IsMethodCall call.kind

-- instruction i of method m is a reached one of the program
pub record IsReachedIn (p : Parts) (m i : ℕ) : Type 0 where
  pub instr : Instr
  pub found : instr_at p m i ≡ Some instr
  pub reached : instr.reached ≡ true

-- the call graph is one for the program: it reaches only what the kinds reach, only calls have targets and takers, each
-- method among the targets is one that the call may go to, and each taker is absorbing
pub record IsGraphFor (p : Parts) (graph : GraphTable) : Type 0 where
  pub reached : (m i : ℕ) → is_reached graph m i ≡ true → IsReachedIn p m i
  pub targets : (m i n : ℕ) → Contains (targets_at graph m i).methods n → IsCallAt p m i
  pub each : (m i n height : ℕ) (call : CallOp) → OpAt p m i (Call call) height → Contains (targets_at graph m i).methods n → IsTargetOf p call n
  pub library : (m i : ℕ) → (targets_at graph m i).library ≡ true → IsCallAt p m i
  pub takers : (m i t : ℕ) → Has (takers_at graph m i) t → IsCallAt p m i × (absorbs p t ≡ true)

-- the number of a field, and of the bags of a token
abbrev pub cell_number : Parts → Cell → ℕ
cell_number p (OfField f) = f
cell_number p (OfBag t) = length p.fields + t

-- a field that is there, and the bags of a token, are cells of the program
abbrev pub IsCell : Parts → Cell → Type 0
IsCell p (OfField f) = f < length p.fields
IsCell p (OfBag t) = t < length p.classes + 4

-- the facts that a table of what is held tells
abbrev pub TellsHeld : Parts → HeldTable → HeldFact → Type 0
TellsHeld p held (TokenHolds t c) = IsCell p c × Has (slice_index_or held.tokens t []) (cell_number p c)
TellsHeld p held (FieldHolds f c) = IsCell p c × Has (slice_index_or held.fields f []) (cell_number p c)

-- a name of the method has this number: the slots come first, then the static fields, what each parameter reached, and what the
-- static fields did
pub data IsNamed (method : Method) : Name → ℕ → Type 0 where
  named_slot : {z : Slot} {n : ℕ} → IsNumbered method z n → IsNamed method (OfSlot z) n
  named_statics : {n : ℕ} → n ≡ slot_count method → IsNamed method Statics n
  named_old_argument : {n : ℕ} (k : ℕ) → k < param_count method → n ≡ slot_count method + 1 + k → IsNamed method (Old (Arg k)) n
  named_old_statics : {n : ℕ} → n ≡ slot_count method + 1 + param_count method → IsNamed method (Old StaticFields) n

-- the pair of these names is in the set before the instruction
pub record PairHas (p : Parts) (pairs : List (List (List (List Bool)))) (m i : ℕ) (a b : Name) : Type 0 where
  pub method : Method
  pub found : slice_get p.methods m ≡ Some method
  pub first : ℕ
  pub second : ℕ
  pub is_first : IsNamed method a first
  pub is_second : IsNamed method b second
  pub member : HasPair (slice_index_or (slice_index_or pairs m []) i []) first second

-- the number of an effect of the method: that of a parameter, or the number of parameters for the static fields
pub data IsEffectNumber (method : Method) : Root → ℕ → Type 0 where
  effect_on_argument : {k : ℕ} → k < param_count method → IsEffectNumber method (Arg k) k
  effect_on_statics : {n : ℕ} → n ≡ param_count method → IsEffectNumber method StaticFields n

-- the method has the effect in the table
pub record EffectHas (p : Parts) (effects : List (List Bool)) (m : ℕ) (r : Root) : Type 0 where
  pub method : Method
  pub found : slice_get p.methods m ≡ Some method
  pub k : ℕ
  pub is : IsEffectNumber method r k
  pub member : has_effect effects m k ≡ true

-- the pair of these names is there at a library call, between its effect and its result or exception: it was there before, or the
-- effect brought it, in this order or in the other
pub data WithinHas (p : Parts) (C : ClassFact → Type 0) (pairs : List (List (List (List Bool)))) (m i : ℕ) : Name → Name → Type 0 where
  within_before : {under : ℕ} {call : CallOp} {a b : Name} → LibraryCall p C m i call under → PairHas p pairs m i a b → WithinHas p C pairs m i a b
  within_absorbed : {under : ℕ} {call : CallOp} {a b : Name} (x v : ℕ) → LibraryCall p C m i call under → IsSource call x call.row.effect → v < arguments call → IsLive a
      → PairHas p pairs m i a (OfSlot (argument under x)) → PairHas p pairs m i (OfSlot (argument under v)) b → WithinHas p C pairs m i a b
  within_turned : {under : ℕ} {call : CallOp} {a b : Name} (x v : ℕ) → LibraryCall p C m i call under → IsSource call x call.row.effect → v < arguments call → IsLive a
      → PairHas p pairs m i a (OfSlot (argument under x)) → PairHas p pairs m i (OfSlot (argument under v)) b → WithinHas p C pairs m i b a

-- the facts that pairs and effects tell, for the call graph that C tells
abbrev pub TellsHeap : Parts → (C : ClassFact → Type 0) → (pairs : List (List (List (List Bool)))) → (effects : List (List Bool)) → HeapFact → Type 0
TellsHeap p C pairs effects (PairAt m i a b) = PairHas p pairs m i a b
TellsHeap p C pairs effects (PairWithin m i a b) = WithinHas p C pairs m i a b
TellsHeap p C pairs effects (Effect m r) = EffectHas p effects m r

-- the facts that reachability tells
abbrev pub TellsReach : Parts → (reach : List (List (List (List Bool)))) → ReachFact → Type 0
TellsReach p reach (ReachAt m i a z) = PairHas p reach m i a (OfSlot z)
TellsReach p reach (ReachWithin m i a z) = ⊥

-- the fact is one that it keeps
abbrev pub IsKeptReach : ReachFact → Type 0
IsKeptReach (ReachAt m i a z) = Unit {0}
IsKeptReach (ReachWithin m i a z) = ⊥

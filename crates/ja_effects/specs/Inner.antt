-- Words of the private functions: which effects instructions have themselves, and which they have by a method that they enter.
use Rattle.std.specs.Prelude.{◌≡◌, ◌⊎◌, ◌↔◌, ℕ, ◌+◌, ◌<◌, Bool, true, false, List, [], ◌∷◌, Some, slice_get}
use Rattle.ja_ir.specs.declared.program.Parts.{Parts}
use Rattle.ja_ir.specs.declared.op.CallOp.{CallOp}
use Rattle.ja_ir.specs.declared.op.Op.{Op}
use Rattle.ja_ir.specs.declared.method.Method.{Method}
use Rattle.ja_ir.specs.Lookup.{OpAt}
use Rattle.ja_ir.specs.Operations.{arguments}
use Rattle.ja_facts.specs.Least.{Least}
use Rattle.ja_facts.specs.Slots.{Slot, argument, CallAt}
use Rattle.ja_facts.specs.ClassSets.{Fact as ClassFact, Reached, IsSource}
use Rattle.ja_facts.specs.Crossings.{Enters}
use Rattle.ja_facts.specs.Sharing.{Fact, Effect, Root, StaticFields, Name, OfSlot, Old, Writes, WritesStatic, LibraryCall, IsRootOf, root_name, EffectRule}
use Rattle.ja_facts.specs.FactTables.{GraphTable}
use Rattle.ja_facts.specs.Told.{TellsGraph, TellsHeap, PairHas, EffectHas, IsEffectNumber}
use Rattle.ja_names.specs.Tables.{HasFlags}

-- the pairs of a program before its instructions
abbrev pub Pairs : Type 0
Pairs = List (List (List (List Bool)))

-- the least effects for given pairs
abbrev pub LeastEffects : Parts → GraphTable → Pairs → Fact → Type 0
LeastEffects p graph pairs = Least (EffectRule p (TellsGraph p graph) (TellsHeap p (TellsGraph p graph) pairs []))

-- each effect of the table is among them
abbrev pub IsSound : Parts → GraphTable → Pairs → List (List Bool) → Type 0
IsSound p graph pairs table = (m : ℕ) (r : Root) → EffectHas p table m r → LeastEffects p graph pairs (Effect m r)

-- these effects came to the table
abbrev pub Gains : Parts → (old new : List (List Bool)) → (ℕ → Root → Type 0) → Type 0
Gains p old new Q = (m : ℕ) (r : Root) → EffectHas p new m r ↔ (EffectHas p old m r ⊎ Q m r)

-- how many effects are not in a row, and in a table
abbrev pub lacking_in : List Bool → ℕ
lacking_in [] = 0
lacking_in (true ∷ flags) = lacking_in flags
lacking_in (false ∷ flags) = 1 + lacking_in flags

abbrev pub lacking : List (List Bool) → ℕ
lacking [] = 0
lacking (flags ∷ rows) = lacking_in flags + lacking rows

-- what an instruction changes itself: the object that it writes into, the static fields, or what a source of a library call reaches
pub data Direct (p : Parts) (C : ClassFact → Type 0) (pairs : Pairs) (m i : ℕ) (r : Root) : Type 0 where
  writes : {height : ℕ} {op : Op} {x v : Slot} → OpAt p m i op height → C (Reached m i) → Writes op height x v → PairHas p pairs m i (OfSlot x) (Old r) → Direct p C pairs m i r
  writes_statics : {height : ℕ} {op : Op} {v : Slot} → OpAt p m i op height → C (Reached m i) → WritesStatic op height v → r ≡ StaticFields → Direct p C pairs m i r
  by_library : {under : ℕ} {call : CallOp} (x : ℕ) → LibraryCall p C m i call under → IsSource call x call.row.effect → PairHas p pairs m i (OfSlot (argument under x)) (Old r)
      → Direct p C pairs m i r

-- one of the first so many arguments of a library call is a source that reaches what the root reached
pub record ReachesSource (p : Parts) (pairs : Pairs) (m i under count : ℕ) (r : Root) : Type 0 where
  pub x : ℕ
  pub below : x < count
  pub pair : PairHas p pairs m i (OfSlot (argument under x)) (Old r)

-- one of the first so many instructions of the method changes it
pub record DirectBelow (p : Parts) (C : ClassFact → Type 0) (pairs : Pairs) (m count : ℕ) (r : Root) : Type 0 where
  pub i : ℕ
  pub below : i < count
  pub direct : Direct p C pairs m i r

-- what an instruction changes by a method that it enters is in the table, where it enters it with so many arguments
abbrev pub IsPassed : Parts → Pairs → List (List Bool) → (m i n count under : ℕ) → Type 0
IsPassed p pairs table m i n count under =
    (s r : Root) → IsRootOf count s → EffectHas p table n s → PairHas p pairs m i (root_name under s) (Old r) → EffectHas p table m r

-- and whatever method it enters
abbrev pub IsClosedAt : Parts → (C : ClassFact → Type 0) → Pairs → List (List Bool) → (m i : ℕ) → Type 0
IsClosedAt p C pairs table m i = (n count under : ℕ) → Enters p C m i n count under → IsPassed p pairs table m i n count under

-- an instruction of method m that changes what a name reaches changes what the root reached, whose number is below a bound
pub record IsTouched (p : Parts) (pairs : Pairs) (m i : ℕ) (method : Method) (a : Name) (bound n : ℕ) (r : Root) : Type 0 where
  pub here : n ≡ m
  pub k : ℕ
  pub number : IsEffectNumber method r k
  pub below : k < bound
  pub pair : PairHas p pairs m i a (Old r)

-- a source of the call reaches what the root reached
pub record IsSourced (p : Parts) (pairs : Pairs) (m i under : ℕ) (call : CallOp) (r : Root) : Type 0 where
  pub x : ℕ
  pub source : IsSource call x call.row.effect
  pub pair : PairHas p pairs m i (OfSlot (argument under x)) (Old r)

-- some instruction of the method changes it itself
pub record HasDirect (p : Parts) (C : ClassFact → Type 0) (pairs : Pairs) (m : ℕ) (r : Root) : Type 0 where
  pub i : ℕ
  pub direct : Direct p C pairs m i r

-- each effect that was in the table is in it
abbrev pub IsKept : Parts → (old new : List (List Bool)) → Type 0
IsKept p old new = (m : ℕ) (r : Root) → EffectHas p old m r → EffectHas p new m r

-- what instructions change themselves is in the table
abbrev pub HasAllDirect : Parts → (C : ClassFact → Type 0) → Pairs → List (List Bool) → Type 0
HasAllDirect p C pairs table = (m i : ℕ) (r : Root) → Direct p C pairs m i r → EffectHas p table m r

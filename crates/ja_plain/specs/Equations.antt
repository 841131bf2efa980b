-- The equations of taint: facts about the truth of slots, and the rules by which they follow from one another.
use Rattle.std.specs.Prelude.{◌≡◌, ◌≢◌, ℕ, zero, suc, ◌+◌, ◌<◌, ◌≤◌, ◌||◌, Bool, true, false, List, [], ◌∷◌, Some}
use Rattle.ja_class.specs.declared.first.FirstMethod.{FirstMethod}
use Rattle.ja_plain.specs.Token.{Token, ReferenceArray, absorbs}
use Rattle.ja_plain.specs.Operation.{Effect, Quiet, Absorb, Blend, Returns, Fresh, Self, Member, Any, ResultType, Primitive, LibraryCall, Operation, Load, Store, Text, Call, Return, flow_of, if_effect, takes, gives, IsAt}

-- what may be true in a frame: a local, a stack value with so many under it, that the method tainted an object, that its exception is tainted
pub data Slot : Type 0 where
  Local : (number : ℕ) → Slot
  OnStack : (under : ℕ) → Slot
  Dirt : Slot
  Exc : Slot

-- the slots that are true
abbrev pub Assignment : Type 0
Assignment = Slot → Bool

-- the arguments that were true when a method began
abbrev pub Entry : Type 0
Entry = ℕ → Bool

-- where values lie between reads: the bags of all objects of a token
pub data Cell : Type 0 where
  BagOf : (token : Token) → Cell

-- what is true when a call ends: its result, its dirt, its exception
pub record Summary : Type 0 where
  pub result : Bool
  pub dirt : Bool
  pub exc : Bool

-- a method may begin with these arguments true; before an instruction these slots may be true; a call may return, or throw; something tainted may be put into a cell
pub data Fact : Type 0 where
  Context : (entry : Entry) → Fact
  At : (i : ℕ) (entry : Entry) (present : Assignment) → Fact
  Normal : (entry : Entry) (summary : Summary) → Fact
  Threw : (entry : Entry) (summary : Summary) → Fact
  Stored : (cell : Cell) → Fact

-- the first is true only where the second is
abbrev pub AtMost : Bool → Bool → Type 0
AtMost t u = t ≡ true → u ≡ true

-- the slots before the first instruction: the arguments in their locals
abbrev pub on_entry : Entry → Assignment
on_entry entry (Local n) = entry n
on_entry entry (OnStack k) = false
on_entry entry Dirt = false
on_entry entry Exc = false

-- one of so many arguments is true, under which lie so many stack values
abbrev pub some_argument : Assignment → ℕ → ℕ → Bool
some_argument present under zero = false
some_argument present under (suc n) = present (OnStack (under + n)) || some_argument present under n

-- the first of so many arguments is true
abbrev pub first_argument : Assignment → ℕ → ℕ → Bool
first_argument present under zero = false
first_argument present under (suc n) = present (OnStack under)

-- the call itself may taint what it returns or throws
abbrev pub flows : LibraryCall → Assignment → ℕ → Bool
flows c present under = flow_of c.row.flow (some_argument present under c.arguments)

-- the call may give something tainted to another object, if it may change one at all
abbrev pub brings : LibraryCall → Assignment → ℕ → Bool
brings c present under = flows c present under || some_argument present under c.arguments

-- the call may change another object, and give it something tainted
abbrev pub taints : LibraryCall → Assignment → ℕ → Bool
taints c present under = if_effect c.row.effect (brings c present under)

-- a result of this type may be true, by whether the flow, some argument, the effect or the first argument is
abbrev pub may_return : ResultType → Returns → (flow all taints first : Bool) → Bool
may_return Primitive returns flow all taints first = flow
may_return type Fresh flow all taints first = flow
may_return type Self flow all taints first = first || taints
may_return type Member flow all taints first = flow || (first || taints)
may_return type Any flow all taints first = flow || all

-- the result of a call may be true
abbrev pub returns_true : LibraryCall → ResultType → Assignment → ℕ → Bool
returns_true c type present under =
    may_return type c.row.returns (flows c present under) (some_argument present under c.arguments) (taints c present under) (first_argument present under c.arguments)

-- the objects that a call may change are those that this slot reaches
abbrev pub IsSource : LibraryCall → Effect → ℕ → Slot → Type 0
IsSource c Quiet under s = ⊥
IsSource c Absorb under s = (c.receiver ≡ true) × (s ≡ OnStack under)
IsSource c Blend under s = (j : ℕ) × (j < c.arguments) × (s ≡ OnStack (under + j))

-- two slots with values may reach one object. No call of the first form changes an object, so this is nowhere asked there, and any two may
abbrev pub MayMeet : Slot → Slot → Type 0
MayMeet (Local n) s = Unit {0}
MayMeet (OnStack k) s = Unit {0}
MayMeet Dirt s = ⊥
MayMeet Exc s = ⊥

-- a call may put its arguments into the bags of objects of this token. No call of the first form changes an object, so this is nowhere asked there, and all absorbing tokens may be
abbrev pub IsTaker : LibraryCall → Effect → Token → Type 0
IsTaker c Quiet t = ⊥
IsTaker c Absorb t = (c.receiver ≡ true) × (absorbs t ≡ true)
IsTaker c Blend t = absorbs t ≡ true

-- an operation stores nothing in this local
abbrev pub LeavesLocal : Operation → ℕ → Type 0
LeavesLocal (Store l) n = n ≢ l
LeavesLocal _ n = Unit {0}

-- an operation that finds so many values on the stack keeps the value in this slot at its normal end
abbrev pub Leaves : Operation → ℕ → Slot → Type 0
Leaves op height (Local n) = LeavesLocal op n
Leaves op height (OnStack k) = k + takes op < height
Leaves op height Dirt = ⊥
Leaves op height Exc = Unit {0}

-- whether a method has tainted an object once the operation is done
abbrev pub dirt_after : Operation → ℕ → Assignment → Bool
dirt_after (Call c) under present = present Dirt || taints c present under
dirt_after _ under present = present Dirt

-- the truths that a slot may have at the normal end of an operation, before which there were so many stack values and these slots were true
pub data AfterNormal (present : Assignment) (height : ℕ) : Operation → Slot → Bool → Type 0 where
  kept : {op : Operation} {y : Slot} {t : Bool} → Leaves op height y → t ≡ present y → AfterNormal present height op y t
  gone : {op : Operation} {k : ℕ} {t : Bool} → height + gives op ≤ k + takes op → t ≡ false → AfterNormal present height op (OnStack k) t
  dirt : {op : Operation} {t : Bool} (under : ℕ) → height ≡ under + takes op → t ≡ dirt_after op under present → AfterNormal present height op Dirt t
  loaded : {n : ℕ} {t : Bool} → t ≡ present (Local n) → AfterNormal present height (Load n) (OnStack height) t
  stored : {n k : ℕ} {t : Bool} → height ≡ suc k → t ≡ present (OnStack k) → AfterNormal present height (Store n) (Local n) t
  new_text : {t : Bool} → t ≡ false → AfterNormal present height Text (OnStack height) t
  returned : {c : LibraryCall} {type : ResultType} {under : ℕ} {t : Bool} → height ≡ under + c.arguments → c.result ≡ Some type → AtMost t (returns_true c type present under) → AfterNormal present height (Call c) (OnStack under) t
  changed : {c : LibraryCall} {y : Slot} {t : Bool} (under : ℕ) (s : Slot) → height ≡ under + c.arguments → IsSource c c.row.effect under s → MayMeet y s → Leaves (Call c) height y → AtMost t (present y || brings c present under) → AfterNormal present height (Call c) y t

-- the truths that a slot may have where the library throws: the stack is gone
pub data AfterThrow (present : Assignment) (height : ℕ) (c : LibraryCall) : Slot → Bool → Type 0 where
  kept : {n : ℕ} {t : Bool} → t ≡ present (Local n) → AfterThrow present height c (Local n) t
  changed : {n : ℕ} {t : Bool} (under : ℕ) (s : Slot) → height ≡ under + c.arguments → IsSource c c.row.effect under s → MayMeet (Local n) s → AtMost t (present (Local n) || brings c present under) → AfterThrow present height c (Local n) t
  gone : {k : ℕ} {t : Bool} → t ≡ false → AfterThrow present height c (OnStack k) t
  dirt : {t : Bool} (under : ℕ) → height ≡ under + c.arguments → t ≡ dirt_after (Call c) under present → AfterThrow present height c Dirt t
  thrown : {t : Bool} (under : ℕ) → height ≡ under + c.arguments → AtMost t (flows c present under) → AfterThrow present height c Exc t

-- another instruction comes after this one
abbrev pub GoesOn : Operation → Type 0
GoesOn Return = ⊥
GoesOn _ = Unit {0}

-- what the argument of `main`, an array of strings, may hold: what lies in the bags of arrays of references
abbrev pub ArgumentHolds : Cell → Type 0
ArgumentHolds cell = cell ≡ BagOf ReferenceArray

-- the rules for a method `main`, by the premises and the conclusion of each
pub data Rule (m : FirstMethod) : List Fact → Fact → Type 0 where
  -- the environment calls the method with an argument that reaches nothing tainted
  called : {entry : Entry} → ((k : ℕ) → entry k ≡ false) → Rule m [] (Context entry)
  -- or with one that reaches what an earlier call stored
  called_with_stored : {entry : Entry} {cell : Cell} → ((k : ℕ) → entry k ≡ true → k ≡ 0) → ArgumentHolds cell → Rule m (Stored cell ∷ []) (Context entry)
  -- the first instruction finds the arguments in their locals
  begins : {entry : Entry} {present : Assignment} → ((y : Slot) → present y ≡ on_entry entry y) → Rule m (Context entry ∷ []) (At 0 entry present)
  -- a normal end leads to the next instruction
  goes_on : {i height : ℕ} {op : Operation} {entry : Entry} {present after : Assignment} → IsAt m i op height → GoesOn op → ((y : Slot) → AfterNormal present height op y (after y)) → Rule m (At i entry present ∷ []) (At (suc i) entry after)
  -- a return ends the call, which has no result
  ends : {i height : ℕ} {entry : Entry} {present : Assignment} → IsAt m i Return height → Rule m (At i entry present ∷ []) (Normal entry (record { result = false; dirt = present Dirt; exc = false }))
  -- a library method may throw, after it has changed objects
  library_throws : {i height : ℕ} {c : LibraryCall} {entry : Entry} {present after : Assignment} → IsAt m i (Call c) height → ((y : Slot) → AfterThrow present height c y (after y)) → Rule m (At i entry present ∷ []) (Threw entry (record { result = false; dirt = after Dirt; exc = after Exc }))
  -- a call on null throws, and all else is kept
  null_receiver : {i height : ℕ} {c : LibraryCall} {entry : Entry} {present : Assignment} → IsAt m i (Call c) height → c.receiver ≡ true → Rule m (At i entry present ∷ []) (Threw entry (record { result = false; dirt = present Dirt; exc = false }))
  -- a call that changes objects may put something tainted into a bag
  library_stores : {i height : ℕ} {c : LibraryCall} {t : Token} {entry : Entry} {present : Assignment} (under : ℕ) → IsAt m i (Call c) height → height ≡ under + c.arguments → IsTaker c c.row.effect t → brings c present under ≡ true → Rule m (At i entry present ∷ []) (Stored (BagOf t))

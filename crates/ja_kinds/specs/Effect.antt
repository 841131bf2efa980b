-- What an instruction does to a frame, and where it may lead (JVM specification 4.10.1.9, 6.5).
use Rattle.std.specs.Prelude.{◌≡◌, ℕ, ◌+◌, ◌⊎◌, Bool, true, false, IsTrue, List, [], ◌∷◌, ◌++◌, length, map, replicate, slice_index, Option, Some, None, option_map, nat_le, nat_lt, not, ◌==◌, ◌&&◌, ◌||◌, if◌then◌else◌}
use Rattle.ja_base.specs.Tag as pool_tag
use Rattle.ja_base.specs.Kind.{words_of}
use Rattle.ja_base.specs.Descriptor.{IsField, IsMethod}
use Rattle.ja_base.specs.declared.java_type.Kind.{Kind}
use Rattle.ja_base.specs.declared.java_type.Kind.TheVariants.{P1, R, T}
use Rattle.ja_base.specs.declared.java_type.JavaType.{JavaType}
use Rattle.ja_pool.specs.Table.{Table, tag_at, member_desc_at, is_member_tag}
use Rattle.ja_code.specs.declared.instr.RawInstr.{RawInstr}
use Rattle.ja_code.specs.declared.behaviour.Source.{Source}
use Rattle.ja_code.specs.declared.behaviour.Source.TheVariants.{Operand, Fixed}
use Rattle.ja_code.specs.declared.behaviour.Operands.{Operands}
use Rattle.ja_code.specs.declared.behaviour.Operands.TheVariants.{One, Two}
use Rattle.ja_code.specs.declared.behaviour.Rearrangement.{Rearrangement}
use Rattle.ja_code.specs.declared.behaviour.Rearrangement.TheVariants.{Pop, Pop2, Dup, DupX1, DupX2, Dup2, Dup2X1, Dup2X2, Swap}
use Rattle.ja_code.specs.declared.behaviour.FieldAccess.TheVariants.{GetStatic, PutStatic, GetField, PutField}
use Rattle.ja_code.specs.declared.behaviour.Invocation.{Invocation}
use Rattle.ja_code.specs.declared.behaviour.Invocation.TheVariants.{Static}
use Rattle.ja_code.specs.declared.behaviour.Behaviour.{Behaviour}
use Rattle.ja_code.specs.declared.behaviour.Behaviour.TheVariants.{Nothing, Constant, Loaded, Load, Store, Increment, ArrayLoad, ArrayStore, Rearrange, Compute, Test, Jump, Switch, Return, Access, Invoke, New, NewArray, NewArrays, ArrayLength, Throw, Cast, InstanceOf, Monitor}
use Rattle.ja_kinds.specs.declared.effect.Effect.{Effect}
use Rattle.ja_kinds.specs.declared.effect.Effect.TheVariants.{Loads, Stores, Counts, Moves, Exchanges, Leaves}
use Rattle.ja_kinds.specs.declared.state.KindState.{KindState}
use Rattle.ja_code.specs.Grammar.{operand_at}
use Rattle.ja_code.specs.Behaviour.{behaviour_at, goes_on, branches}
use Rattle.ja_kinds.specs.Frame.{same_kind, same_kinds, local_at, stored, words, top, under}

-- ---- from opcode, operands and pool to the effect

-- the kinds of operands, the lower one first
abbrev pub kinds_of : Operands → List Kind
kinds_of (One k) = k ∷ []
kinds_of (Two k l) = k ∷ l ∷ []

-- the kind of a value, if there is one
abbrev pub kinds_in : Option Kind → List Kind
kinds_in None = []
kinds_in (Some kind) = kind ∷ []

abbrev pub kind_of_type : JavaType → Kind
kind_of_type type = type.kind

-- the local that an instruction uses
abbrev pub place_of : Source → RawInstr → ℕ
place_of Operand i = operand_at i 0
place_of (Fixed place) i = place

-- the constant that an instruction names is of this kind: a text or a class is a reference, an int or a float is not
abbrev pub constant_kind : ℕ → Option Kind
constant_kind tag = if tag == pool_tag.class || tag == pool_tag.string then Some R else if tag == pool_tag.integer || tag == pool_tag.float then Some P1 else None

-- the tag of the entry that an instruction names
abbrev pub tag_named : Table → RawInstr → ℕ
tag_named pool i = tag_at pool (operand_at i 0)

-- the member that an instruction names is a field of this kind
pub record NamesField (pool : Table) (i : RawInstr) (kind : Kind) : Type 0 where
  pub member : IsTrue (is_member_tag (tag_named pool i))
  pub type : JavaType
  pub field : IsField (member_desc_at pool (operand_at i 0)) type
  pub same : kind ≡ type.kind

-- the member that an instruction names is a method that takes and gives values of these kinds
pub record NamesMethod (pool : Table) (i : RawInstr) (taken : List Kind) (given : Option Kind) : Type 0 where
  pub member : IsTrue (is_member_tag (tag_named pool i))
  pub params : List JavaType
  pub result : Option JavaType
  pub method : IsMethod (member_desc_at pool (operand_at i 0)) params result
  pub takes : taken ≡ map kind_of_type params
  pub gives : given ≡ option_map kind_of_type result

-- the effect of a behaviour where it does not depend on the pool
abbrev pub fixed_effect : RawInstr → Behaviour → Option Effect
fixed_effect i Nothing = Some (Exchanges [] [])
fixed_effect i (Constant kind) = Some (Exchanges [] (kind ∷ []))
fixed_effect i Loaded = None
fixed_effect i (Load kind source) = Some (Loads kind (place_of source i))
fixed_effect i (Store kind source) = Some (Stores kind (place_of source i))
fixed_effect i Increment = Some (Counts (operand_at i 0))
fixed_effect i (ArrayLoad kind) = Some (Exchanges (R ∷ P1 ∷ []) (kind ∷ []))
fixed_effect i (ArrayStore kind) = Some (Exchanges (R ∷ P1 ∷ kind ∷ []) [])
fixed_effect i (Rearrange how) = Some (Moves how)
fixed_effect i (Compute operands kind throws) = Some (Exchanges (kinds_of operands) (kind ∷ []))
fixed_effect i (Test operands) = Some (Exchanges (kinds_of operands) [])
fixed_effect i Jump = Some (Exchanges [] [])
fixed_effect i Switch = Some (Exchanges (P1 ∷ []) [])
fixed_effect i (Return kind) = Some (Leaves kind)
fixed_effect i (Access how) = None
fixed_effect i (Invoke how) = None
fixed_effect i New = Some (Exchanges [] (R ∷ []))
fixed_effect i (NewArray elements) = Some (Exchanges (P1 ∷ []) (R ∷ []))
fixed_effect i NewArrays = Some (Exchanges (replicate (operand_at i 1) P1) (R ∷ []))
fixed_effect i ArrayLength = Some (Exchanges (R ∷ []) (P1 ∷ []))
fixed_effect i Throw = Some (Exchanges (R ∷ []) [])
fixed_effect i Cast = Some (Exchanges (R ∷ []) (R ∷ []))
fixed_effect i InstanceOf = Some (Exchanges (R ∷ []) (P1 ∷ []))
fixed_effect i Monitor = Some (Exchanges (R ∷ []) [])

-- where it loads a constant of this kind
abbrev pub loaded_effect : Behaviour → Kind → Option Effect
loaded_effect Loaded kind = Some (Exchanges [] (kind ∷ []))
loaded_effect behaviour kind = None

-- where it names a field of this kind
abbrev pub field_effect : Behaviour → Kind → Option Effect
field_effect (Access GetStatic) kind = Some (Exchanges [] (kind ∷ []))
field_effect (Access PutStatic) kind = Some (Exchanges (kind ∷ []) [])
field_effect (Access GetField) kind = Some (Exchanges (R ∷ []) (kind ∷ []))
field_effect (Access PutField) kind = Some (Exchanges (R ∷ kind ∷ []) [])
field_effect behaviour kind = None

-- the kinds that a call takes below the arguments: that of its receiver, if it has one
abbrev pub receiver_of : Invocation → List Kind
receiver_of Static = []
receiver_of how = R ∷ []

-- where it names a method that takes and gives values of these kinds
abbrev pub method_effect : Behaviour → List Kind → Option Kind → Option Effect
method_effect (Invoke how) taken given = Some (Exchanges (receiver_of how ++ taken) (kinds_in given))
method_effect behaviour taken given = None

-- a behaviour has this effect, by the operands of the instruction and the pool
pub data HasEffect (pool : Table) (i : RawInstr) (behaviour : Behaviour) (effect : Effect) : Type 0 where
  fixed : fixed_effect i behaviour ≡ Some effect → HasEffect pool i behaviour effect
  loaded : {kind : Kind} → constant_kind (tag_named pool i) ≡ Some kind → loaded_effect behaviour kind ≡ Some effect
      → HasEffect pool i behaviour effect
  field : {kind : Kind} → NamesField pool i kind → field_effect behaviour kind ≡ Some effect → HasEffect pool i behaviour effect
  method : {taken : List Kind} {given : Option Kind} → NamesMethod pool i taken given → method_effect behaviour taken given ≡ Some effect
      → HasEffect pool i behaviour effect

-- an instruction has this effect, and this behaviour
pub record Does (pool : Table) (i : RawInstr) (behaviour : Behaviour) (effect : Effect) : Type 0 where
  pub opcode : behaviour_at i.opcode ≡ Some behaviour
  pub effect_is : HasEffect pool i behaviour effect

-- ---- words on the stack

-- what moves words takes a block of so many words from the top of the stack, and another from under it
abbrev pub top_words : Rearrangement → ℕ
top_words Pop = 1
top_words Pop2 = 2
top_words Dup = 1
top_words DupX1 = 1
top_words DupX2 = 1
top_words Dup2 = 2
top_words Dup2X1 = 2
top_words Dup2X2 = 2
top_words Swap = 1

abbrev pub under_words : Rearrangement → ℕ
under_words Pop = 0
under_words Pop2 = 0
under_words Dup = 0
under_words DupX1 = 1
under_words DupX2 = 2
under_words Dup2 = 0
under_words Dup2X1 = 1
under_words Dup2X2 = 2
under_words Swap = 1

-- what it pushes in place of the two blocks
abbrev pub moved : Rearrangement → (lower upper : List Kind) → List Kind
moved Pop lower upper = []
moved Pop2 lower upper = []
moved Dup lower upper = upper ++ (lower ++ upper)
moved DupX1 lower upper = upper ++ (lower ++ upper)
moved DupX2 lower upper = upper ++ (lower ++ upper)
moved Dup2 lower upper = upper ++ (lower ++ upper)
moved Dup2X1 lower upper = upper ++ (lower ++ upper)
moved Dup2X2 lower upper = upper ++ (lower ++ upper)
moved Swap lower upper = upper ++ lower

-- the words that it pushes
abbrev pub moved_words : Rearrangement → ℕ
moved_words Pop = 0
moved_words Pop2 = 0
moved_words Dup = 2
moved_words DupX1 = 3
moved_words DupX2 = 4
moved_words Dup2 = 4
moved_words Dup2X1 = 5
moved_words Dup2X2 = 6
moved_words Swap = 2

-- the words that an effect needs on the stack
abbrev pub needed : Effect → ℕ
needed (Loads kind place) = 0
needed (Stores kind place) = words_of kind
needed (Counts place) = 0
needed (Moves how) = under_words how + top_words how
needed (Exchanges taken pushed) = words taken
needed (Leaves kind) = words (kinds_in kind)

-- the words that it puts in their place
abbrev pub given : Effect → ℕ
given (Loads kind place) = words_of kind
given (Stores kind place) = 0
given (Counts place) = 0
given (Moves how) = moved_words how
given (Exchanges taken pushed) = words pushed
given (Leaves kind) = 0

-- whether fewer words are on the stack than are needed, or more than the frame has, before or after
abbrev pub is_wrong_depth : (max_stack : ℕ) → Effect → List Kind → Bool
is_wrong_depth max_stack effect stack =
    nat_lt max_stack (words stack) || (nat_lt (words stack) (needed effect)
    || nat_lt (max_stack + needed effect) (words stack + given effect))

-- ---- kinds

-- whether the local at a place holds a usable value of a kind, all words of which are there
abbrev pub holds : List Kind → ℕ → Kind → Bool
holds locals place kind =
    nat_le (place + words_of kind) (length locals) && (same_kind (local_at locals place) kind && not (same_kind kind T))

-- the stack with values of some kinds in place of those on top, which are of other kinds; none where they are not
abbrev pub exchanged : (taken pushed stack : List Kind) → Option (List Kind)
exchanged taken pushed stack =
    if same_kinds (top (length taken) stack) taken then Some (under (length taken) stack ++ pushed) else None

-- how many values on top of the stack take so many words, 0 to 2; none where that would split a value
abbrev pub block : ℕ → List Kind → Option ℕ
block count stack =
    if words (top 0 stack) == count then Some 0
    else if words (top 1 stack) == count then Some 1
    else if words (top 2 stack) == count then Some 2 else None

abbrev pub rearranged_by : Rearrangement → List Kind → ℕ → Option ℕ → Option (List Kind)
rearranged_by how stack upper None = None
rearranged_by how stack upper (Some lower) =
    Some (under lower (under upper stack) ++ moved how (top lower (under upper stack)) (top upper stack))

abbrev pub rearranged_under : Rearrangement → List Kind → Option ℕ → Option (List Kind)
rearranged_under how stack None = None
rearranged_under how stack (Some upper) = rearranged_by how stack upper (block (under_words how) (under upper stack))

-- the stack after words are moved; none where that would split a value
abbrev pub rearranged : Rearrangement → List Kind → Option (List Kind)
rearranged how stack = rearranged_under how stack (block (top_words how) stack)

-- locals and a stack, where there is a stack
abbrev pub with_stack : List Kind → Option (List Kind) → Option KindState
with_stack locals None = None
with_stack locals (Some stack) = Some (record { locals = locals; stack = stack })

-- whether a method that returns this may end with that
abbrev pub may_return : Option Kind → Option Kind → Bool
may_return None None = true
may_return None (Some kind) = false
may_return (Some kind) None = false
may_return (Some kind) (Some other) = same_kind kind other

-- the locals and the stack after an effect, in a method that returns a value of this kind, if it does; none where the
-- effect needs others
abbrev pub turned : Option Kind → Effect → KindState → Option KindState
turned returns (Loads kind place) f =
    if holds f.locals place kind then with_stack f.locals (Some (f.stack ++ kind ∷ [])) else None
turned returns (Stores kind place) f =
    if nat_le (place + words_of kind) (length f.locals) then with_stack (stored place kind f.locals) (exchanged (kind ∷ []) [] f.stack) else None
turned returns (Counts place) f = if holds f.locals place P1 then with_stack f.locals (Some f.stack) else None
turned returns (Moves how) f = with_stack f.locals (rearranged how f.stack)
turned returns (Exchanges taken pushed) f = with_stack f.locals (exchanged taken pushed f.stack)
turned returns (Leaves kind) f =
    if may_return returns kind then with_stack f.locals (exchanged (kinds_in kind) [] f.stack) else None

-- ---- the way on

-- the places where it may branch to
abbrev pub targets_of : Behaviour → RawInstr → List ℕ
targets_of behaviour i = if branches behaviour then i.operands else []

-- one of some things
abbrev pub IsOneOf : {A : Type 0} → A → List A → Type 0
IsOneOf a [] = ⊥
IsOneOf a (b ∷ bs) = (a ≡ b) ⊎ IsOneOf a bs

-- an instruction's normal end leads to this place of the code
abbrev pub LeadsTo : RawInstr → Behaviour → ℕ → Type 0
LeadsTo i behaviour place = IsOneOf place (targets_of behaviour i) ⊎ ((goes_on behaviour ≡ true) × (place ≡ i.pc + i.length))

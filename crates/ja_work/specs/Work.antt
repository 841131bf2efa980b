-- The functions that the equations of a program are made of: sets of their facts, their clauses, and what forgetting, renaming and fixing
-- make of these.
use Rattle.std.specs.Prelude.{◌≡◌, ◌⊎◌, ℕ, ◌+◌, ◌/◌, ◌%◌, ◌<◌, Contains, ◌&&◌, ◌||◌, nat_lt, nat_eq, not, Bool, true, false, List, [], ◌∷◌, ◌++◌, Some, None, Option, zero, suc, slice_get, if◌then◌else◌}
use Rattle.ja_ir.specs.declared.program.Parts.{Parts}
use Rattle.ja_ir.specs.declared.method.Method.{Method}
use Rattle.ja_base.specs.declared.java_type.Kind.{Kind}
use Rattle.ja_ir.specs.declared.op.Op.{Op}
use Rattle.ja_ir.specs.declared.op.Op.TheVariants.{Return}
use Rattle.ja_ir.specs.declared.op.CallOp.{CallOp}
use Rattle.ja_ir.specs.Lookup.{OpAt}
use Rattle.ja_ir.specs.Operations.{arguments}
use Rattle.ja_ir.specs.Params.{param_local, param_count}
use Rattle.ja_ir.specs.Handlers.{Place, dest, Inside, Outside}
use Rattle.ja_ir.specs.Initializing.{InitAt}
use Rattle.ja_node_core.specs.Tree.{Tree, branch, truth, IsReduced, Assignment as Variables}
use Rattle.ja_bdd.specs.Functions.{Function, renamed, KeepsOrder, IsFree}
use Rattle.ja_bdd.specs.Copies.{forgotten_below, fixed_below}
use Rattle.ja_facts.specs.Least.{Least}
use Rattle.ja_facts.specs.ClassSets.{CallsMethod, InThrown}
use Rattle.ja_facts.specs.Slots.{CallAt, Slot, Local as InLocal, OnStack as InStack}
use Rattle.ja_facts.specs.Crossings.{has_result}
use Rattle.ja_facts.specs.Analyses.{Analyses}
use Rattle.ja_facts.specs.Formulas.{Assignment, Summary, any_below, IsNormalEnd, IsExceptionalEnd, IsReturn, IsCallThrown}
use Rattle.ja_facts.specs.Equations.{Fact, Context, At, Normal, Threw, Rule, Calls, IsNothing, IsCaught}
use Rattle.ja_work.specs.declared.clause.Spot.{Spot}
use Rattle.ja_work.specs.declared.clause.Spot.TheVariants.{Local, OnStack, Dirt, Exc}
use Rattle.ja_work.specs.declared.clause.Clause.{Clause}
use Rattle.ja_work.specs.declared.way.Way.{Way}
use Rattle.ja_work.specs.declared.frame.Frame.{Frame}
use Rattle.ja_work.specs.Clauses.{never, moved}
use Rattle.ja_work.specs.Ends.{Tests, AreTests, may_go_on, normal_clauses, may_end, exceptional_clauses, AreAffected, return_clauses, throw_clauses, caught_clauses, summary_of}
use Rattle.ja_work.specs.Frames.{size, spot_at, variable, read, clause_function, clauses_from}
use Rattle.ja_work.specs.Thrown.{ends_thrown}

-- the local is the first one of a parameter of the method
abbrev pub is_param : Method → ℕ → Bool
is_param method l = any_below (λ k. nat_eq l (param_local method k)) (param_count method)

-- the slot is a parameter's
abbrev pub is_param_slot : Method → Slot → Bool
is_param_slot method (InLocal l) = is_param method l
is_param_slot method (InStack k) = false

-- the assignment that a method was entered with, by the variables of the copy at its entry: only parameters may be true
abbrev pub entry_of : Method → Frame → Variables → Assignment
entry_of method frame a = record {
  slot = λ z. is_param_slot method z && (read frame 0 a).slot z;
  dirt = false;
  exc = false;
}

-- the spot is a parameter's
abbrev pub is_param_spot : Method → Spot → Bool
is_param_spot method (Local l) = is_param method l
is_param_spot method _ = false

-- the variable is one of a set of facts of a method: of a parameter in the copy at the entry, or of any slot in the copy at present
abbrev pub is_own : Method → Frame → (v : ℕ) → Bool
is_own method frame v =
    nat_lt (v / 4) (size frame) && (nat_eq (v % 4) 1 || (nat_eq (v % 4) 0 && is_param_spot method (spot_at frame (v / 4))))

-- a function that is true only where a fact is, and looks at the variables of facts alone
pub record IsSet (method : Method) (frame : Frame) (holds : (entry now : Assignment) → Type 0) (φ : Function) : Type 0 where
  pub facts : (a : Variables) → φ a ≡ true → holds (entry_of method frame a) (read frame 1 a)
  pub own : (v : ℕ) → is_own method frame v ≡ false → IsFree v φ

-- the assignment tells a summary, and nothing else
pub record TellsSummary (b : Assignment) : Type 0 where
  pub locals : (l : ℕ) → b.slot (InLocal l) ≡ false
  pub stack : (k : ℕ) → b.slot (InStack (suc k)) ≡ false

-- the clauses of a return: the result, if there is one, is what lies on so many values
abbrev pub end_clauses : (result : Option ℕ) → Spot → Clause
end_clauses result (Local l) = never
end_clauses None (OnStack k) = never
end_clauses (Some top) (OnStack k) = if nat_eq k 0 then moved (OnStack top) else never
end_clauses result Dirt = moved Dirt
end_clauses result Exc = never

-- the clauses of an exceptional end that leaves the method
abbrev pub leave_clauses : Spot → Clause
leave_clauses (Local l) = never
leave_clauses (OnStack k) = never
leave_clauses Dirt = moved Dirt
leave_clauses Exc = moved Exc

-- instruction i of method m does this operation, the kinds reach it, and before it there are so many values on the stack
pub record ReachedAt (p : Parts) (m i : ℕ) (op : Op) (height : ℕ) : Type 0 where
  pub at : OpAt p m i op height
  pub reached : at.instr.reached ≡ true

module _ (p : Parts) (A : Analyses) where
  -- the facts of the equations
  abbrev pub Facts : Fact → Type 0
  Facts = Least (Rule p A)

  -- something that instruction i of method m throws goes to this place
  pub record GoesTo (m i : ℕ) (place : Place) : Type 0 where
    pub token : ℕ
    pub thrown : A.classes (InThrown m i token)
    pub goes : Contains (dest p m i token) place

  -- the clauses are those of an end of instruction i of method m, of a way through a method, of a handler, or of an end of the method
  pub data IsRule (m i : ℕ) : (Spot → Clause) → Type 0 where
    normal : {op : Op} {height : ℕ} (tests : Tests) → ReachedAt p m i op height → AreTests A m i tests → may_go_on tests op ≡ true → IsRule m i (normal_clauses tests op height)
    exceptional : {op : Op} {height : ℕ} (tests : Tests) (way : Way) → ReachedAt p m i op height → AreTests A m i tests → may_end tests op way ≡ true → IsRule m i (exceptional_clauses way tests op height)
    returns : {n under : ℕ} {call : CallOp} (affected : Slot → Bool) (s : Summary) → CallAt p m i call under → A.classes (CallsMethod m i n) → AreAffected A m i n (arguments call) under affected
        → IsRule m i (return_clauses affected under (has_result call.result) s)
    throws : {n under : ℕ} {call : CallOp} (affected : Slot → Bool) (s : Summary) → CallAt p m i call under → A.classes (CallsMethod m i n) → AreAffected A m i n (arguments call) under affected
        → IsRule m i (throw_clauses affected s)
    initializes : {n height : ℕ} {op : Op} (affected : Slot → Bool) (s : Summary) → ReachedAt p m i op height → InitAt p m i n → AreAffected A m i n 0 height affected → IsRule m i (return_clauses affected height false s)
    caught : {j : ℕ} → GoesTo m i (Inside j) → IsRule m i caught_clauses
    returns_value : {k : ℕ} {kind : Kind} → ReachedAt p m i (Return (Some kind)) (suc k) → IsRule m i (end_clauses (Some k))
    returns_nothing : {height : ℕ} → ReachedAt p m i (Return None) height → IsRule m i (end_clauses None)
    leaves : GoesTo m i Outside → IsRule m i leave_clauses

  -- from the parameters a, an exceptional end of instruction i of method m, its own or that of a method that it calls, may lead to the
  -- assignment c
  pub data IsThrown (m i : ℕ) (a : Assignment) : Assignment → Type 0 where
    by_itself : (b c : Assignment) → Facts (At m i a b) → IsExceptionalEnd p A m i b c → IsThrown m i a c
    by_callee : {n under : ℕ} {call : CallOp} (b c d : Assignment) (s : Summary) → Facts (At m i a b) → Calls p A m i n call under b d → Facts (Threw n d s)
        → IsCallThrown A m i n (arguments call) under b s c → IsThrown m i a c

  -- from the parameters a, an end of instruction i of method m may lead to the assignment c
  pub data IsAfter (m i : ℕ) (a : Assignment) : Assignment → Type 0 where
    after_normal : (b c : Assignment) → Facts (At m i a b) → IsNormalEnd p A m i b c → IsAfter m i a c
    after_thrown : (c : Assignment) → IsThrown m i a c → IsAfter m i a c
    after_return : {n under : ℕ} {call : CallOp} (b c d : Assignment) (s : Summary) → Facts (At m i a b) → Calls p A m i n call under b d → Facts (Normal n d s)
        → IsReturn A m i n (arguments call) under (has_result call.result) b s c → IsAfter m i a c
    after_initializer : {n height : ℕ} {op : Op} (b c d : Assignment) (s : Summary) → Facts (At m i a b) → OpAt p m i op height → InitAt p m i n → IsNothing d → Facts (Normal n d s)
        → IsReturn A m i n 0 height false b s c → IsAfter m i a c
    after_caught : {j : ℕ} (b c : Assignment) → IsThrown m i a b → GoesTo m i (Inside j) → IsCaught b c → IsAfter m i a c

  -- what is said of the parameters and the assignment of a set of facts: before instruction i of method m, of the method, or after the instruction
  pub data Saying : Type 0 where
    before : (i : ℕ) → Saying
    of_context : Saying
    of_return : Saying
    of_throw : Saying
    behind : (i : ℕ) → Saying

  abbrev pub Says : (m : ℕ) → Saying → (a b : Assignment) → Type 0
  Says m (before i) a b = Facts (At m i a b)
  Says m of_context a b = Facts (Context m a)
  Says m of_return a b = Facts (Normal m a (summary_of b)) × TellsSummary b
  Says m of_throw a b = Facts (Threw m a (summary_of b)) × TellsSummary b
  Says m (behind i) a b = IsAfter m i a b

  module _ (frames : List Frame) where
    -- this is method m, with its frame
    pub record IsMethod (m : ℕ) (method : Method) (frame : Frame) : Type 0 where
      pub found : slice_get p.methods m ≡ Some method
      pub framed : slice_get frames m ≡ Some frame
      pub locals : frame.locals ≡ method.locals
      pub stack : frame.stack ≡ method.stack

    -- the variable is that of a place in the frame of a method
    pub record IsVariable (v : ℕ) : Type 0 where
      pub m : ℕ
      pub method : Method
      pub frame : Frame
      pub is : IsMethod m method frame
      pub inside : v / 4 < size frame

    -- some of what is said of method m in this way
    pub data IsSome (m : ℕ) (saying : Saying) : Function → Type 0 where
      some_of : {method : Method} {frame : Frame} (φ : Function) → IsMethod m method frame → IsSet method frame (Says m saying) φ → IsSome m saying φ

    -- some contexts, returns or throws of method m
    pub data IsOfMethod (m : ℕ) : Function → Type 0 where
      contexts : (φ : Function) → IsSome m of_context φ → IsOfMethod m φ
      returned : (φ : Function) → IsSome m of_return φ → IsOfMethod m φ
      thrown : (φ : Function) → IsSome m of_throw φ → IsOfMethod m φ

    -- one clause of a rule of instruction i of method m, those from some place on, or a whole exceptional end
    pub data IsClauses (m i : ℕ) : Function → Type 0 where
      one_clause : {method : Method} {frame : Frame} {clauses : Spot → Clause} (place : ℕ) → IsMethod m method frame → IsRule m i clauses → place < size frame
          → IsClauses m i (clause_function frame (clauses (spot_at frame place)) (spot_at frame place))
      rest_of_rule : {method : Method} {frame : Frame} {clauses : Spot → Clause} (place count : ℕ) → IsMethod m method frame → IsRule m i clauses → place + count ≡ size frame
          → IsClauses m i (clauses_from frame clauses place count)
      whole_exceptional : {height : ℕ} {method : Method} {frame : Frame} {op : Op} (tests : Tests) → IsMethod m method frame → ReachedAt p m i op height → AreTests A m i tests
          → IsClauses m i (ends_thrown frame tests op height)

-- the value of a variable, or its negation
abbrev pub signed : (positive value : Bool) → Bool
signed true value = value
signed false value = not value

abbrev pub literal : ℕ → (positive : Bool) → Function
literal v positive a = signed positive (a v)

-- one of the variables is true
abbrev pub any_of : List ℕ → Function
any_of [] a = false
any_of (v ∷ vs) a = a v || any_of vs a

-- one of the variables is true, or none is
abbrev pub gathered : (positive : Bool) → List ℕ → Function
gathered positive vs a = signed positive (any_of vs a)

-- the variables at present of so many values on the stack
abbrev pub stack_variables : Frame → (first count : ℕ) → List ℕ
stack_variables frame first zero = []
stack_variables frame first (suc count) = variable frame (OnStack first) 1 ∷ stack_variables frame (suc first) count

-- the variables at present that the clause looks at
abbrev pub variables_if : Frame → Option Spot → List ℕ
variables_if frame None = []
variables_if frame (Some s) = variable frame s 1 ∷ []

abbrev pub variables_of : Frame → Clause → List ℕ
variables_of frame clause = variables_if frame clause.one ++ stack_variables frame clause.first clause.count

-- both functions, or either of them
abbrev pub tied_by : (both : Bool) → Function → Function → Function
tied_by true φ ψ a = φ a && ψ a
tied_by false φ ψ a = φ a || ψ a

-- of one clause, the disjunction of its variables from some place on, or the conjunction of their negations, alone or joined to one of its
-- literals
pub data IsPiece (frame : Frame) (clause : Clause) (s : Spot) : Function → Type 0 where
  tail : (before vs : List ℕ) (positive : Bool) → variables_of frame clause ≡ before ++ vs → IsPiece frame clause s (gathered positive vs)
  tied : (before vs : List ℕ) (positive both sign : Bool) (v : ℕ) → variables_of frame clause ≡ before ++ vs
      → (v ≡ variable frame s 2) ⊎ ((us : List ℕ) × (ws : List ℕ) × (variables_of frame clause ≡ us ++ v ∷ ws))
      → IsPiece frame clause s (tied_by both (literal v sign) (gathered positive vs))

module _ (p : Parts) (A : Analyses) (frames : List Frame) where
  -- the variables that the function looks at become variables of methods, in their order
  pub record IsPlaced (partner : ℕ → ℕ) (φ : Function) : Type 0 where
    pub ordered : KeepsOrder partner φ
    pub variables : (v : ℕ) → ¬ IsFree v φ → IsVariable p A frames (partner v)

  -- a part of a product: everything, or a function of one kind, as it is or with its variables renamed
  pub data IsPart (kind : Function → Type 0) : Function → Type 0 where
    everything : IsPart kind (λ a. true)
    as_it_is : (φ : Function) → kind φ → IsPart kind φ
    placed : (φ : Function) (partner : ℕ → ℕ) → kind φ → IsPlaced partner φ → IsPart kind (renamed partner φ)

  -- one literal
  pub data IsLiteral : Function → Type 0 where
    one_literal : (v : ℕ) (positive : Bool) → IsVariable p A frames v → IsLiteral (literal v positive)

  -- facts before an instruction, facts of a method, facts after the instruction, clauses of it and a literal
  pub record IsProduct (φ : Function) : Type 0 where
    pub m : ℕ
    pub i : ℕ
    pub n : ℕ
    pub first : (ψ : Function) × IsPart (IsSome p A frames m (before i)) ψ
    pub second : (ψ : Function) × IsPart (IsOfMethod p A frames n) ψ
    pub third : (ψ : Function) × IsPart (IsSome p A frames m (behind i)) ψ
    pub clauses : (ψ : Function) × IsPart (IsClauses p A frames m i) ψ
    pub literal : (ψ : Function) × IsPart IsLiteral ψ
    pub is : (a : Variables) → φ a ≡ (first.0 a && (second.0 a && (third.0 a && (clauses.0 a && literal.0 a))))

  -- the work: products and pieces, and what forgetting variables in ascending order, renaming in order and fixing make of work
  pub data IsWork : Function → Type 0 where
    product : (φ : Function) → IsProduct φ → IsWork φ
    piece : {m i : ℕ} {method : Method} {frame : Frame} {clauses : Spot → Clause} (φ : Function) (place : ℕ) → IsMethod p A frames m method frame → IsRule p A m i clauses → place < size frame
        → IsPiece frame (clauses (spot_at frame place)) (spot_at frame place) φ → IsWork φ
    forgot : (φ : Function) (goes : ℕ → Bool) (n : ℕ) → IsWork φ → IsWork (forgotten_below n goes φ)
    renamed_as : (φ : Function) (partner : ℕ → ℕ) → IsWork φ → IsPlaced partner φ → IsWork (renamed partner φ)
    fixed_at : (φ : Function) (v : ℕ) (below : Variables) → IsWork φ → IsWork (fixed_below v below φ)
    -- what its first variable fixed makes of work, as a tree
    low : (v : ℕ) (l h : Tree) → IsReduced (branch v l h) → IsWork (truth (branch v l h)) → IsWork (truth l)
    high : (v : ℕ) (l h : Tree) → IsReduced (branch v l h) → IsWork (truth (branch v l h)) → IsWork (truth h)

  -- a reduced tree of the work
  abbrev pub IsWorkTree : Tree → Type 0
  IsWorkTree t = IsReduced t × IsWork (truth t)

  pub work_falls : (v : ℕ) (l h : Tree) → IsWorkTree (branch v l h) → IsWorkTree l × IsWorkTree h
  work_falls v l h (reduced, is) = ((reduced.3, low v l h reduced is), (reduced.4, high v l h reduced is))

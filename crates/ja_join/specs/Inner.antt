-- Words of the private functions: what a step makes from some place on, and what was noted.
use Rattle.std.specs.Prelude.{◌≡◌, ◌≢◌, ◌⊎◌, ℕ, ◌<◌, ◌≤◌, false, ◌&&◌, ◌||◌, Bool, true, List, [], ◌∷◌, Option, Some, None, slice_get, drop}
use Rattle.ja_node_core.specs.declared.aim.Aim.{Ghosts}
use Rattle.ja_node_core.specs.Tree.{Tree, Assignment}
use Rattle.ja_node_core.specs.Node.{Words, Knows}
use Rattle.ja_node_table.specs.declared.table.NodeTable.{NodeTable}
use Rattle.ja_bdd.specs.declared.worker.Worker.{Worker}
use Rattle.ja_bdd.specs.Functions.{Function, fixed, either, IsFree, IsFrom, IsAimed}
use Rattle.ja_bdd.specs.Meaning.{meaning, IsMeant, Keeps, IsHalved}
use Rattle.ja_bdd.specs.Workers.{IsWorkerOf, seen}
use Rattle.ja_join.specs.declared.rule.States.{States}
use Rattle.ja_join.specs.declared.rule.Move.{Move}
use Rattle.ja_join.specs.declared.rule.Rule.{Rule}
use Rattle.ja_join.specs.declared.memo.Noted.{Noted}
use Rattle.ja_join.specs.declared.memo.Memo.{Memo}
use Rattle.ja_join.specs.Ascending.{AscendFrom, TellFrom}
use Rattle.ja_join.specs.Moves.{truth_after, next_states, accepts}
use Rattle.ja_join.specs.Steps.{IsBelow, IsGone, IsLow, joint}

-- what moves make of a function, from some states on: at each the truth before is forgotten
abbrev pub stepped : (accepted : States) → List Move → States → Function → Function
stepped accepted [] s φ a = accepts accepted s && φ a
stepped accepted (m ∷ moves) s φ a =
    stepped accepted moves (next_states m false (truth_after m a) s) (fixed m.variable false φ) a
    || stepped accepted moves (next_states m true (truth_after m a) s) (fixed m.variable true φ) a

-- what the moves of a rule from one on make
abbrev pub stepped_from : Rule → (at : ℕ) → States → Function → Function
stepped_from rule at s φ = stepped rule.accepted (drop at rule.moves.items) s φ

-- what moves make of a function of the caller's variables with one of the callee's
abbrev pub passed : (accepted : States) → List Move → States → (φ σ : Function) → Function
passed accepted moves s φ σ = stepped accepted moves s (joint moves φ σ)

abbrev pub passed_from : Rule → (at : ℕ) → States → (φ σ : Function) → Function
passed_from rule at s φ σ = passed rule.accepted (drop at rule.moves.items) s φ σ

-- what a move makes where its variable is true, or false, after it
abbrev pub moved_to : (accepted : States) → Move → List Move → States → (after : Bool) → (low high : Function) → Function
moved_to accepted m moves s after low high = either (stepped accepted moves (next_states m false after s) low) (stepped accepted moves (next_states m true after s) high)

-- a function of the callee's variables where the one that is told of has a truth
abbrev pub taken : Option ℕ → Bool → Function → Function
taken None b σ = σ
taken (Some x) b σ = fixed x b σ

-- what is left behind a move of both functions, where its variable has a truth before it
abbrev pub part_of : Move → List Move → (before : Bool) → (φ σ : Function) → Function
part_of m moves before φ σ = joint moves (fixed m.variable before φ) (taken m.told before σ)

-- what a move makes of both functions where its variable has this truth after it
abbrev pub parted : (accepted : States) → Move → List Move → States → (after : Bool) → (φ σ : Function) → Function
parted accepted m moves s after φ σ = moved_to accepted m moves s after (part_of m moves false φ σ) (part_of m moves true φ σ)

-- the assignment has no true variable before this one
abbrev pub IsClear : ℕ → Assignment → Type 0
IsClear x b = (y : ℕ) → y < x → b y ≡ false

-- the node means what is left of another where the variable that is told of has a truth, and none before it is true
abbrev pub IsTaken : Words → Option ℕ → Bool → (g n : ℕ) → Type 0
IsTaken k None b g n = n ≡ g
IsTaken k (Some x) b g n = Knows k n × ((a : Assignment) → IsClear x a → meaning k n a ≡ fixed x b (meaning k g) a)

-- each part of the function is of the aim, where parts look at no variable before some one, and at none of some others
abbrev pub AreAimed : (Tree → Type 0) → (none : ℕ → Type 0) → (from : ℕ) → (χ : Function) → Type 0
AreAimed aim none from χ = (ψ : Function) → IsLow ψ → IsFrom from ψ → ((v : ℕ) → none v → IsFree v ψ) → IsBelow ψ χ → IsAimed aim ψ

-- a variable that plays no part after a move for either of two functions
abbrev pub IsGoneForBoth : List Move → (φ ψ : Function) → ℕ → Type 0
IsGoneForBoth moves φ ψ v = IsGone moves φ v × IsGone moves ψ v

-- what is noted of this call is right
abbrev pub AreRight : Rule → Words → Memo → Type 0
AreRight rule k memo = (i : ℕ) (e : Noted) → slice_get memo.entries.items i ≡ Some e → e.call ≡ memo.call
    → Knows k e.asked.number × Knows k e.told.number × IsMeant k e.made.number (passed_from rule e.at e.states (meaning k e.asked.number) (meaning k e.told.number))

-- the memo has this answer
abbrev pub HasNoted : Memo → (at : ℕ) → States → (asked told made : ℕ) → Type 0
HasNoted memo at s asked told made = (i : ℕ) × (e : Noted) × (slice_get memo.entries.items i ≡ Some e) × (e.call ≡ memo.call) × (e.at ≡ at) × (e.states ≡ s) × (e.asked.number ≡ asked) × (e.told.number ≡ told) × (e.made.number ≡ made)

module _ {A : Type 0} {G : Ghosts A} (t : NodeTable A) where
  -- what a part of a pass is asked: known nodes, of which the caller's looks at no variable before some one, from which on the moves rise, of which each part of what is made is of the aim; and what is noted is right
  pub record IsAsked (aim : Tree → Type 0) (rule : Rule) (at : ℕ) (s : States) (from : ℕ) (w : Worker A G) (memo : Memo) (r g : ℕ) : Type 0 where
    pub worker : IsWorkerOf t w
    pub known : Knows (seen w) r
    pub told : Knows (seen w) g
    pub later : IsFrom from (meaning (seen w) r)
    pub ascending : AscendFrom from (drop at rule.moves.items)
    pub telling : TellFrom 0 (drop at rule.moves.items)
    pub right : AreRight rule (seen w) memo
    pub aimed : AreAimed aim (IsGone (drop at rule.moves.items) (meaning (seen w) r)) from (passed_from rule at s (meaning (seen w) r) (meaning (seen w) g))

  -- what a part of a pass leaves: a worker that keeps what it knew, and what is noted is right
  pub record IsMade (rule : Rule) (old new : Worker A G) (memo : Memo) : Type 0 where
    pub worker : IsWorkerOf t new
    pub keeps : Keeps (seen old) (seen new)
    pub right : AreRight rule (seen new) memo

-- both functions are true somewhere, and where the variable is still ahead, it is true there
abbrev pub IsSought : (ahead : Bool) → (var : ℕ) → (φ σ : Function) → Type 0
IsSought ahead var φ σ = (a : Assignment) × (ahead ≡ true → a var ≡ true) × (φ a ≡ true) × (σ a ≡ true)

-- how a memo tells both phases of a search apart: before its variable is decided, and after
abbrev pub phase_of : Bool → ℕ
phase_of true = 0
phase_of false = 1

-- what is noted is that some search found nothing
abbrev pub IsVain : (var : ℕ) → Words → Noted → Type 0
IsVain var k e = (ahead : Bool) → e.at ≡ phase_of ahead → ¬ IsSought ahead var (meaning k e.asked.number) (meaning k e.told.number)

abbrev pub AreVain : (var : ℕ) → Words → Memo → Type 0
AreVain var k memo = (i : ℕ) (e : Noted) → slice_get memo.entries.items i ≡ Some e → e.call ≡ memo.call → IsVain var k e

-- two nodes are cut at one variable before which neither looks
pub record AreCut (k : Words) (v end r c r_low r_high c_low c_high : ℕ) : Type 0 where
  pub first : IsHalved k v r r_low r_high
  pub second : IsHalved k v c c_low c_high
  pub within : v ≤ end
  pub apart : v < end → (r_low ≢ r_high) ⊎ (c_low ≢ c_high)

-- what a part of a search is asked: known nodes that look at no variable before some one; the variable is not before it where it is still ahead
pub record IsSeeking {A : Type 0} {G : Ghosts A} (t : NodeTable A) (var : ℕ) (ahead : Bool) (from : ℕ) (w : Worker A G) (memo : Memo) (r c : ℕ) : Type 0 where
  pub worker : IsWorkerOf t w
  pub known : Knows (seen w) r
  pub second : Knows (seen w) c
  pub later : IsFrom from (meaning (seen w) r)
  pub second_later : IsFrom from (meaning (seen w) c)
  pub coming : ahead ≡ true → from ≤ var
  pub vain : AreVain var (seen w) memo

-- How pairs of names before a step become pairs of names after it.
use Rattle.std.specs.Prelude.{◌≡◌, ◌⊎◌, ℕ, ◌<◌, ◌≤◌, Bool, List, Some, slice_get}
use Rattle.ja_sets.specs.Sets.{Has, HasPair}
use Rattle.ja_moves.specs.declared.steps.Move.{Move}

-- the list moves the first name to the second
abbrev pub IsMove : (moves : List Move) → (a c : ℕ) → Type 0
IsMove moves a c = (k : ℕ) × (slice_get moves k ≡ Some (record { from = a; to = c }))

-- the names of the list are below a bound
abbrev pub AreBelow : (bound : ℕ) → (moves : List Move) → Type 0
AreBelow bound moves = (k : ℕ) (move : Move) → slice_get moves k ≡ Some move → (move.from < bound) × (move.to < bound)

-- after a step the second name has places that the first one had before it: it is kept, or moved there
abbrev pub Comes : (kept : List Bool) (moves : List Move) → (a c : ℕ) → Type 0
Comes kept moves a c = (Has kept a × (c ≡ a)) ⊎ IsMove moves a c

-- a name that met the one comes to the other
pub record Meets (kept : List Bool) (moves : List Move) (whole : List (List Bool)) (a d : ℕ) : Type 0 where
  pub b : ℕ
  pub comes : Comes kept moves b d
  pub pair : HasPair whole a b

-- the names that come to these met before the step
pub record IsCarried (kept : List Bool) (moves : List Move) (whole : List (List Bool)) (c d : ℕ) : Type 0 where
  pub a : ℕ
  pub comes : Comes kept moves a c
  pub meets : Meets kept moves whole a d

-- one of the two names is among the affected ones, and the other among those that are met
abbrev pub IsWidened : (affected met : List Bool) → (a b : ℕ) → Type 0
IsWidened affected met a b = (Has affected a × Has met b) ⊎ (Has met a × Has affected b)

-- a kept name meets a name of a range
pub record IsGathered (kept : List Bool) (whole : List (List Bool)) (from to : ℕ) (b : ℕ) : Type 0 where
  pub a : ℕ
  pub above : from ≤ a
  pub below : a < to
  pub pair : HasPair whole a b
  pub stays : Has kept b

-- The table as a machine: what each event does to the words and to what the actors know.
use Rattle.std.specs.Prelude.{◌≡◌, ◌≢◌, ℕ, ◌<◌, ◌≤◌, max, List, [], ◌∷◌, ◌++◌, replicate, slice_index, slice_index_or, slice_set, if◌then◌else◌, ◌==◌, ◌⊎◌}
use Rattle.ja_node_core.specs.Tree.{Tree, branch}
use Rattle.ja_node_core.specs.Word.{word_of, var_of, low_of, high_of, places, place}
use Rattle.ja_node_core.specs.Node.{Words, Means, IsOther}
use Rattle.ja_base.specs.Limit.{last_variable}

-- what was seen: places, each with the word that stood there
abbrev pub Known : Type 0
Known = List (ℕ × ℕ)

-- the word that is known at a place, or 0
abbrev pub word_at : Known → Words
word_at [] p = 0
word_at (x ∷ xs) p = max (if x.0 == p then x.1 else 0) (word_at xs p)

-- what is known once w was seen at p: an empty word teaches nothing
abbrev pub learned : Known → ℕ → ℕ → Known
learned known p w = (if w == 0 then known else (p, w) ∷ known)

pub data Actor : Type 0 where
  gone : Actor
  active : Known → Actor

pub record State : Type 0 where
  pub words : List ℕ
  pub actors : List Actor

pub data Event : Type 0 where
  looks : (actor place : ℕ) → Event
  claims : (actor word step : ℕ) → Event
  forks : (actor : ℕ) → Event
  meets : (actor other : ℕ) → Event

-- n empty words, and one actor that knows nothing
abbrev pub start : ℕ → State
start n = record { words = replicate n 0; actors = active [] ∷ [] }

-- each word that is known stands
abbrev pub AllStand : Words → Known → Type 0
AllStand at [] = Unit {0}
AllStand at (x ∷ xs) = (0 < x.1) × (at x.0 ≡ x.1) × AllStand at xs

-- the actor of this number is there, and knows this
abbrev pub IsActive : State → ℕ → Known → Type 0
IsActive s a known = slice_index_or s.actors a gone ≡ active known

-- a child is a constant, or a known node with a greater variable, and means this tree
pub record IsKnownChild (at : Words) (var child : ℕ) (t : Tree) : Type 0 where
  pub means : Means at t child
  pub greater : 1 < child → var < var_of (at child)

-- what is asked of a claim of w at the i-th place of its path, by what the actor knows
pub record MayClaim (n : ℕ) (aim : Tree → Type 0) (at : Words) (w i : ℕ) : Type 0 where
  pub within : i < places n
  pub small : var_of w ≤ last_variable
  pub packed : w ≡ word_of (var_of w) (low_of w) (high_of w)
  pub apart : low_of w ≢ high_of w
  pub low : (t : Tree) × IsKnownChild at (var_of w) (low_of w) t
  pub high : (t : Tree) × IsKnownChild at (var_of w) (high_of w) t
  pub aimed : aim (branch (var_of w) low.0 high.0)
  pub before : (j : ℕ) → j < i → IsOther at w (place n w j)

-- the words once w was to stand at p: it does where p was empty
abbrev pub claimed : List ℕ → ℕ → ℕ → List ℕ
claimed words p w = (if slice_index words p == 0 then slice_set words p w else words)

-- the state with these words, whose actor has seen what stands at p
abbrev pub seen : List ℕ → List Actor → ℕ → Known → ℕ → State
seen words actors a known p = record { words = words; actors = slice_set actors a (active (learned known p (slice_index words p))) }

module _ (n : ℕ) (aim : Tree → Type 0) where
  -- the event's condition holds, and makes the second state of the first
  abbrev pub Does : Event → State → State → Type 0
  Does (looks a p) s t = (known : Known) × IsActive s a known × (t ≡ seen s.words s.actors a known p)
  Does (claims a w i) s t = (known : Known) × IsActive s a known × MayClaim n aim (word_at known) w i × (t ≡ seen (claimed s.words (place n w i) w) s.actors a known (place n w i))
  Does (forks a) s t = (known : Known) × IsActive s a known × (t ≡ record { words = s.words; actors = s.actors ++ active known ∷ [] })
  Does (meets a b) s t = (known : Known) × (other : Known) × IsActive s a known × IsActive s b other × (a ≢ b) × (t ≡ record { words = s.words; actors = slice_set (slice_set s.actors a (active (known ++ other))) b gone })

  -- an event whose condition fails changes nothing
  abbrev pub Steps : Event → State → State → Type 0
  Steps e s t = Does e s t ⊎ (((u : State) → ¬ Does e s u) × (t ≡ s))

  abbrev pub Runs : List Event → State → State → Type 0
  Runs [] s t = t ≡ s
  Runs (e ∷ es) s t = (u : State) × Steps e s u × Runs es u t

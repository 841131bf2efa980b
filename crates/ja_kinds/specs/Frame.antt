-- What the locals and the values on the stack are before an instruction (JVM specification 2.6, 4.10.1).
use Rattle.std.specs.Prelude.{◌≡◌, ℕ, ◌+◌, ◌-◌, ◌⊎◌, ◌==◌, Bool, true, false, List, [], ◌∷◌, ◌++◌, length, take, drop, replicate, sum_by, slice_index_or, slice_set, ◌&&◌, if◌then◌else◌}
use Rattle.std.specs.List.{flat_map}
use Rattle.ja_base.specs.Kind.{words_of}
use Rattle.ja_base.specs.declared.java_type.Kind.{Kind}
use Rattle.ja_base.specs.declared.java_type.Kind.TheVariants.{P1, P2, R, T}
use Rattle.ja_kinds.specs.declared.state.State.{State}
use Rattle.ja_kinds.specs.declared.state.State.TheVariants.{Unreached, Known, Clash}

-- whether two kinds are one
abbrev pub same_kind : Kind → Kind → Bool
same_kind P1 P1 = true
same_kind P2 P2 = true
same_kind R R = true
same_kind T T = true
same_kind k l = false

-- the same for each of two lists
abbrev pub same_kinds : List Kind → List Kind → Bool
same_kinds [] [] = true
same_kinds [] (l ∷ ls) = false
same_kinds (k ∷ ks) [] = false
same_kinds (k ∷ ks) (l ∷ ls) = same_kind k l && same_kinds ks ls

-- ---- the order of what is known

-- a local of one kind may be taken for one of another: it is the same, or the other is not usable
abbrev pub IsBelow : Kind → Kind → Type 0
IsBelow k l = (k ≡ l) ⊎ (l ≡ T)

-- the same for each local
abbrev pub AreBelow : List Kind → List Kind → Type 0
AreBelow [] [] = Unit {0}
AreBelow [] (l ∷ ls) = ⊥
AreBelow (k ∷ ks) [] = ⊥
AreBelow (k ∷ ks) (l ∷ ls) = IsBelow k l × AreBelow ks ls

-- one state says as much as another, or more: the stacks are equal and each local is below; nothing is below all, and the
-- clash is above all
abbrev pub Below : State → State → Type 0
Below Unreached s = Unit {0}
Below (Known f) Unreached = ⊥
Below (Known f) (Known g) = AreBelow f.locals g.locals × (f.stack ≡ g.stack)
Below (Known f) Clash = Unit {0}
Below Clash Unreached = ⊥
Below Clash (Known g) = ⊥
Below Clash Clash = Unit {0}

-- ---- locals

-- the local at a place
abbrev pub local_at : List Kind → ℕ → Kind
local_at locals place = slice_index_or locals place T

-- the words that a value of a kind fills, of which the second is not usable by itself
abbrev pub filled : Kind → List Kind
filled P1 = P1 ∷ []
filled P2 = P2 ∷ T ∷ []
filled R = R ∷ []
filled T = T ∷ []

-- what a kind is where a value is stored over its second word: a long or double is not usable any more
abbrev pub cut_kind : Kind → Kind
cut_kind P1 = P1
cut_kind P2 = T
cut_kind R = R
cut_kind T = T

-- the locals where a value is stored at a place, without that value: the word before may be the first of two
abbrev pub cut : ℕ → List Kind → List Kind
cut place locals = if place == 0 then locals else slice_set locals (place - 1) (cut_kind (local_at locals (place - 1)))

-- the locals with the words of a value at a place
abbrev pub written : ℕ → Kind → List Kind → List Kind
written place P1 locals = slice_set locals place P1
written place P2 locals = slice_set (slice_set locals place P2) (place + 1) T
written place R locals = slice_set locals place R
written place T locals = slice_set locals place T

-- the locals after a value of a kind is stored at a place
abbrev pub stored : ℕ → Kind → List Kind → List Kind
stored place kind locals = written place kind (cut place locals)

-- the words that parameters fill, one after another
abbrev pub parameter_words : List Kind → List Kind
parameter_words parameters = flat_map filled parameters

-- the locals at the start: the parameters, and then words that are not usable; as many as the frame has
abbrev pub entry_locals : (max_locals : ℕ) → (parameters : List Kind) → List Kind
entry_locals max_locals parameters = take max_locals (parameter_words parameters ++ replicate max_locals T)

-- ---- the stack, from the bottom

-- the words of values
abbrev pub words : List Kind → ℕ
words values = sum_by words_of values

-- so many values on top, and those under them
abbrev pub top : ℕ → List Kind → List Kind
top count stack = drop (length stack - count) stack

abbrev pub under : ℕ → List Kind → List Kind
under count stack = take (length stack - count) stack

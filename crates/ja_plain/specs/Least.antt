-- The least set of facts under rules, each of which has a list of premises and a conclusion.
use Rattle.std.specs.Prelude.{ℕ, zero, suc, List, [], ◌∷◌}

-- every member of the list is in the set
abbrev pub Each : {F : Type 0} → (F → Type 0) → List F → Type 0
Each S [] = Unit {0}
Each S (f ∷ fs) = S f × Each S fs

-- the facts that so many rounds give from nothing, with all rules applied at once in each
abbrev pub Iterate : {F : Type 0} → (List F → F → Type 0) → ℕ → F → Type 0
Iterate R zero f = ⊥
Iterate {F} R (suc rounds) f = (premises : List F) × R premises f × Each (Iterate R rounds) premises

-- the least set under the rules: the union of all rounds
abbrev pub Least : {F : Type 0} → (List F → F → Type 0) → F → Type 0
Least R f = (rounds : ℕ) × Iterate R rounds f

-- a set under the rules: it has the conclusion of every rule whose premises it has
abbrev pub IsSolution : {F : Type 0} → (List F → F → Type 0) → (F → Type 0) → Type 0
IsSolution {F} R S = (premises : List F) (f : F) → R premises f → Each S premises → S f

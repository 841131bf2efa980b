-- The least set of facts under rules, each of which has a list of premises and a conclusion.
use Rattle.std.specs.Prelude.{ℕ, zero, suc, List, [], ◌∷◌}

-- each fact of a list is in the set
abbrev pub Each : {F : Type 0} → (F → Type 0) → List F → Type 0
Each S [] = Unit {0}
Each S (f ∷ fs) = S f × Each S fs

-- what the rules give in at most so many rounds from nothing, all applied at once
abbrev pub Iterate : {F : Type 0} → (List F → F → Type 0) → ℕ → F → Type 0
Iterate R zero f = ⊥
Iterate {F} R (suc n) f = (ps : List F) × R ps f × Each (Iterate R n) ps

-- the least solution: what some round gives
abbrev pub Least : {F : Type 0} → (List F → F → Type 0) → F → Type 0
Least R f = (n : ℕ) × Iterate R n f

-- every rule holds in the set: the conclusion of a rule is in it where the premises are
abbrev pub IsSolution : {F : Type 0} → (List F → F → Type 0) → (F → Type 0) → Type 0
IsSolution {F} R S = (ps : List F) (f : F) → R ps f → Each S ps → S f

-- Moves in the order of their variables, and of the callee's variables that they tell of.
use Rattle.std.specs.Prelude.{ℕ, ◌+◌, ◌<◌, ◌≤◌, List, [], ◌∷◌, ⊤, Option, Some, None}
use Rattle.std.specs.List.{All}
use Rattle.std.specs.Coded.{×_prop, Unit-prop, le_prop}
use Rattle.ja_join.specs.declared.rule.Move.{Move}
use Rattle.ja_base.specs.Limit.{last_variable}

-- the variables of the moves rise from a variable on, up to the last
abbrev pub AscendFrom : (from : ℕ) → List Move → Type 0
AscendFrom from [] = ⊤
AscendFrom from (m ∷ moves) = (from ≤ m.variable) × ((m.variable ≤ last_variable) × AscendFrom (m.variable + 1) moves)

pub AscendFrom-prop : (from : ℕ) (moves : List Move) → IsProp (AscendFrom from moves)
AscendFrom-prop from [] = Unit-prop
AscendFrom-prop from (m ∷ moves) = ×_prop le_prop (×_prop le_prop (AscendFrom-prop (m.variable + 1) moves))

-- what is told of is not before a variable, and not behind the last; and from which one on others may be told of
abbrev pub IsToldFrom : (from : ℕ) → Option ℕ → Type 0
IsToldFrom from None = ⊤
IsToldFrom from (Some x) = (from ≤ x) × (x ≤ last_variable)

abbrev pub behind_told : (from : ℕ) → Option ℕ → ℕ
behind_told from None = from
behind_told from (Some x) = x + 1

-- the callee's variables that the moves tell of rise from a variable on
abbrev pub TellFrom : (from : ℕ) → List Move → Type 0
TellFrom from [] = ⊤
TellFrom from (m ∷ moves) = IsToldFrom from m.told × TellFrom (behind_told from m.told) moves

IsToldFrom-prop : (from : ℕ) (told : Option ℕ) → IsProp (IsToldFrom from told)
IsToldFrom-prop from None = Unit-prop
IsToldFrom-prop from (Some x) = ×_prop le_prop le_prop

pub TellFrom-prop : (from : ℕ) (moves : List Move) → IsProp (TellFrom from moves)
TellFrom-prop from [] = Unit-prop
TellFrom-prop from (m ∷ moves) = ×_prop (IsToldFrom-prop from m.told) (TellFrom-prop (behind_told from m.told) moves)

-- the first variable that is told of lies before the second, if there are both
abbrev pub IsToldBefore : (first second : Option ℕ) → Type 0
IsToldBefore None second = ⊤
IsToldBefore (Some x) None = ⊤
IsToldBefore (Some x) (Some y) = x < y

-- a move comes before another
abbrev pub Precedes : (first second : Move) → Type 0
Precedes first second = (first.variable < second.variable) × IsToldBefore first.told second.told

-- the move may come behind others
pub record MayFollow (moves : List Move) (m : Move) : Type 0 where
  pub small : m.variable ≤ last_variable
  pub told_small : IsToldFrom 0 m.told
  pub behind : All (λ (before : Move). Precedes before m) moves

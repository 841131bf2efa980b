-- Clauses: what an end of an instruction says of one spot of the frame after it.
use Rattle.std.specs.Prelude.{◌≡◌, ◌||◌, Bool, true, false, not, Option, Some, None}
use Rattle.ja_facts.specs.Slots.{Slot, Local as InLocal, OnStack as InStack}
use Rattle.ja_facts.specs.Formulas.{Assignment, any_stacked}
use Rattle.ja_work.specs.declared.clause.Spot.{Spot}
use Rattle.ja_work.specs.declared.clause.Spot.TheVariants.{Local, OnStack, Dirt, Exc}
use Rattle.ja_work.specs.declared.clause.Clause.{Clause}

-- the truth of a spot in an assignment
abbrev pub value : Assignment → Spot → Bool
value b (Local l) = b.slot (InLocal l)
value b (OnStack k) = b.slot (InStack k)
value b Dirt = b.dirt
value b Exc = b.exc

-- the spot of a slot
abbrev pub spot_of : Slot → Spot
spot_of (InLocal l) = Local l
spot_of (InStack k) = OnStack k

-- the truth of a spot, and false where there is none
abbrev pub value_if : Assignment → Option Spot → Bool
value_if b None = false
value_if b (Some s) = value b s

-- where a clause lets its spot be true, by the assignment before
abbrev pub bound : Clause → Assignment → Bool
bound clause b = clause.always || (value_if b clause.one || any_stacked b clause.first clause.count)

-- a spot that is true exactly, or at most, where a bound is, may have this truth
abbrev pub fits_as : (exact bound after : Bool) → Bool
fits_as true true after = after
fits_as true false after = not after
fits_as false true after = true
fits_as false false after = not after

-- the clause lets its spot have this truth
abbrev pub fits : Clause → Assignment → (after : Bool) → Bool
fits clause b after = fits_as clause.exact (bound clause b) after

-- the clauses of all spots hold between the assignments
abbrev pub AllFit : (Spot → Clause) → (b after : Assignment) → Type 0
AllFit clauses b after = (s : Spot) → fits (clauses s) b (value after s) ≡ true

-- the spot is always, or never, true
abbrev pub constant : Bool → Clause
constant truth = record { exact = true; always = truth; one = None; first = 0; count = 0 }

abbrev pub never : Clause
never = constant false

-- nothing is said of the spot
abbrev pub anything : Clause
anything = record { exact = false; always = true; one = None; first = 0; count = 0 }

-- it is true where that spot was
abbrev pub moved : Spot → Clause
moved s = record { exact = true; always = false; one = Some s; first = 0; count = 0 }

-- at most where that spot was
abbrev pub at_most : Spot → Clause
at_most s = record { exact = false; always = false; one = Some s; first = 0; count = 0 }

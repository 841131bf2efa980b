-- Assignments and summaries by what is true in them.
use Rattle.std.specs.Prelude.{ℕ, zero, suc, Bool, true, false, ◌||◌, List, [], ◌∷◌}
use Rattle.ja_facts.specs.Slots.{Slot, Local, OnStack}
use Rattle.ja_facts.specs.Formulas.{Assignment, Summary}

-- the numbers are equal
abbrev pub is_number : ℕ → ℕ → Bool
is_number zero zero = true
is_number zero (suc n) = false
is_number (suc m) zero = false
is_number (suc m) (suc n) = is_number m n

-- the slots are the same
abbrev pub is_slot : Slot → Slot → Bool
is_slot (Local l) (Local x) = is_number l x
is_slot (Local l) (OnStack k) = false
is_slot (OnStack k) (Local l) = false
is_slot (OnStack k) (OnStack x) = is_number k x

-- the slot is listed
abbrev pub is_listed : List Slot → Slot → Bool
is_listed [] z = false
is_listed (y ∷ ys) z = is_slot y z || is_listed ys z

-- exactly these slots are true, and nothing tainted was stored
abbrev pub only : List Slot → Assignment
only zs = record { slot = is_listed zs; dirt = false; exc = false }

-- exactly these slots are true, and something tainted was stored
abbrev pub dirty : List Slot → Assignment
dirty zs = record { slot = is_listed zs; dirt = true; exc = false }

-- the result is tainted, and nothing else
abbrev pub tainted_result : Summary
tainted_result = record { result = true; dirt = false; exc = false }

-- what was thrown is tainted, and nothing else
abbrev pub tainted_throw : Summary
tainted_throw = record { result = false; dirt = false; exc = true }

-- something tainted was stored, and nothing else
abbrev pub stored_taint : Summary
stored_taint = record { result = false; dirt = true; exc = false }

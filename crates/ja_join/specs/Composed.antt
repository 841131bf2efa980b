-- Compositions of relations, and what is left of copies.
use Rattle.std.specs.Prelude.{◌≡◌, ℕ, ◌-◌, ◌%◌, ◌==◌, not, true, false, if◌then◌else◌}
use Rattle.ja_bdd.specs.declared.copies.Copies.{Copies}
use Rattle.ja_bdd.specs.Functions.{Function, both, IsFree}
use Rattle.ja_bdd.specs.Copies.{in_copies, all_forgotten}

-- the copies that these are not
abbrev pub others_of : Copies → Copies
others_of c = record { at_entry = not c.at_entry; at_present = not c.at_present; at_next = not c.at_next; at_callee = not c.at_callee }

-- the copy at present; those at the entry and at present; those at present and next
abbrev pub present_alone : Copies
present_alone = record { at_entry = false; at_present = true; at_next = false; at_callee = false }

abbrev pub entry_and_present : Copies
entry_and_present = record { at_entry = true; at_present = true; at_next = false; at_callee = false }

abbrev pub present_and_next : Copies
present_and_next = record { at_entry = false; at_present = true; at_next = true; at_callee = false }

-- the function looks at variables of these copies alone
abbrev pub LooksIn : Copies → Function → Type 0
LooksIn c φ = (v : ℕ) → in_copies c v ≡ false → IsFree v φ

-- the variable at present in place of the next one
abbrev pub earlier : ℕ → ℕ
earlier v = if v % 4 == 2 then v - 1 else v

-- the first relation and then the second: the present that both share is forgotten, and what was next is present
abbrev pub composed : Function → Function → Function
composed φ ρ a = all_forgotten (in_copies present_alone) (both φ ρ) (λ v. a (earlier v))

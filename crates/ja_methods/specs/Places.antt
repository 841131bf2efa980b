-- Which instructions stand at places of a code, and where instructions lead, by indices (JVM specification 4.7.3, 6.5).
use Rattle.std.specs.Prelude.{ℕ, ◌+◌, ◌&&◌, Bool, List, [], ◌∷◌, ◌++◌, Option, Some, None, length, map, nat_le, nat_lt, if◌then◌else◌}
use Rattle.std.specs.List.{position_or_len}
use Rattle.ja_code.specs.declared.instr.RawInstr.{RawInstr}
use Rattle.ja_code.specs.declared.behaviour.Behaviour.{Behaviour}
use Rattle.ja_code.specs.Behaviour.{behaviour_at, goes_on}
use Rattle.ja_kinds.specs.Effect.{targets_of}

-- an instruction begins at a place of the code, or past it
abbrev pub is_at_or_past : (place : ℕ) → RawInstr → Bool
is_at_or_past place i = nat_le place i.pc

-- the index of the first instruction at a place of the code or past it; the number of instructions where there is none
abbrev pub index_of : List RawInstr → (place : ℕ) → ℕ
index_of instrs place = position_or_len (is_at_or_past place) instrs

-- the index after k, where the code may go on there and has an instruction there
abbrev pub following : (goes : Bool) → (k size : ℕ) → List ℕ
following goes k size = if goes && nat_lt (k + 1) size then (k + 1) ∷ [] else []

-- the indices of the instructions to which instruction k of the code leads at its normal end, by what its opcode does: its
-- targets, a switch's default before its cases, and then the next instruction, where it goes on there and there is one
abbrev pub next_by : List RawInstr → (k : ℕ) → RawInstr → Option Behaviour → List ℕ
next_by instrs k i None = []
next_by instrs k i (Some behaviour) = map (index_of instrs) (targets_of behaviour i) ++ following (goes_on behaviour) k (length instrs)

abbrev pub next_of : List RawInstr → (k : ℕ) → RawInstr → List ℕ
next_of instrs k i = next_by instrs k i (behaviour_at i.opcode)

-- How the places where blocks begin are marked and the blocks cut.
use Rattle.std.specs.Prelude.{ℕ, ◌+◌, ◌-◌, Bool, true, false, List, [], ◌∷◌, length, nat_lt, slice_set, if◌then◌else◌}
use Rattle.ja_ir.specs.declared.block.Block.{Block}
use Rattle.ja_ir.specs.declared.method.Instr.{Instr}
use Rattle.ja_ir.specs.declared.method.Handler.{Handler}
use Rattle.ja_ir.specs.Blocks.{is_branch, ends_block, may_initialize}

-- the flags after those of these places were set
abbrev pub with_places : List ℕ → List Bool → List Bool
with_places [] flags = flags
with_places (place ∷ places) flags = with_places places (slice_set flags place true)

-- the flags after that of a place was set, where there is one
abbrev pub with_place : ℕ → List Bool → List Bool
with_place place flags = if nat_lt place (length flags) then slice_set flags place true else flags

-- the flags after those of a branch's targets were set
abbrev pub with_targets : Instr → List Bool → List Bool
with_targets instr flags = if is_branch instr.op then with_places instr.next flags else flags

-- the flags after that of an instruction was set, where it may initialise a class
abbrev pub with_initializing : ℕ → Instr → List Bool → List Bool
with_initializing i instr flags = if may_initialize instr.op then with_place i flags else flags

-- the flags after those were set that instruction i asks for
abbrev pub with_instr : ℕ → Instr → List Bool → List Bool
with_instr i instr flags =
    if ends_block instr.op then with_place (i + 1) (with_initializing i instr (with_targets instr flags)) else with_initializing i instr (with_targets instr flags)

-- the flags after those were set that the instructions from index i on ask for
abbrev pub with_code : ℕ → List Instr → List Bool → List Bool
with_code i [] flags = flags
with_code i (instr ∷ code) flags = with_code (i + 1) code (with_instr i instr flags)

-- the flags after those of the handlers were set
abbrev pub with_handlers : List Handler → List Bool → List Bool
with_handlers [] flags = flags
with_handlers (handler ∷ handlers) flags = with_handlers handlers (slice_set flags handler.target true)

-- the blocks from the one that began at `first` on, where the flags are those from index i on
abbrev pub blocks_from : (first i : ℕ) → List Bool → List Block
blocks_from first i [] = record { first = first; last = i - 1 } ∷ []
blocks_from first i (true ∷ flags) = record { first = first; last = i - 1 } ∷ blocks_from i (i + 1) flags
blocks_from first i (false ∷ flags) = blocks_from first (i + 1) flags

-- the blocks of a method whose flags are these; its first instruction begins one in any case
abbrev pub blocks_after : List Bool → List Block
blocks_after [] = []
blocks_after (_ ∷ flags) = blocks_from 0 1 flags

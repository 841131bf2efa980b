-- How control goes on behind an instruction, and values move with it; and where the parameters of a method are at its beginning.
use Rattle.std.specs.Prelude.{ℕ, suc, ◌+◌, ◌==◌, ◌&&◌, true, false, Bool, List, [], ◌∷◌, ◌++◌, map, if◌then◌else◌}
use Rattle.ja_base.specs.declared.id.MethodId.{MethodId}
use Rattle.ja_base.specs.declared.java_type.JavaType.{JavaType}
use Rattle.ja_base.specs.Kind.{words_of}
use Rattle.ja_ir.specs.declared.method.Method.{Method}
use Rattle.ja_ir.specs.Lookup.{is_member}
use Rattle.ja_ir.specs.Params.{param_types}
use Rattle.ja_network.specs.declared.cell.Cell.{Cell}
use Rattle.ja_network.specs.declared.cell.Cell.TheVariants.{Param, Before}
use Rattle.ja_network.specs.declared.cell.Event.TheVariants.{Reached}
use Rattle.ja_cells.specs.Rows.{cell_in}
use Rattle.ja_cells.specs.Names.{Names, row_at}
use Rattle.ja_constraints.specs.declared.constraint.Constraint.{Constraint}
use Rattle.ja_constraints.specs.declared.constraint.Constraint.TheVariants.{Happens}
use Rattle.ja_constraints.specs.Links.{copy, reach}

-- to a cell of a slot before instruction j of method m, if it is one, goes what comes there in the slot
abbrev pub flow : (m j : ℕ) → (next : List Cell) → Cell → List Constraint
flow m j next (Before n i z) = if (n == m) && (i == j) then copy (cell_in next z) (Before n i z) else []
flow m j next cell = []

-- to each slot that has a cell of its own before instruction j goes what comes there
abbrev pub flows : (m j : ℕ) → (next there : List Cell) → List Constraint
flows m j next [] = []
flows m j next (cell ∷ there) = flow m j next cell ++ flows m j next there

-- control goes on to instruction j, and values with it
abbrev pub way : (names : Names) (m : ℕ) (next : List Cell) (j : ℕ) → List Constraint
way names m next j = reach m j ++ flows m j next (row_at names m j)

-- control goes on to these instructions, and values with it
abbrev pub goes_on : (names : Names) (m : ℕ) (next : List Cell) → List ℕ → List Constraint
goes_on names m next [] = []
goes_on names m next (j ∷ js) = way names m next j ++ goes_on names m next js

-- these methods may begin
abbrev pub begin_each : List MethodId → List Constraint
begin_each methods = map (λ (n : MethodId). Happens (Reached n.0 0)) methods

-- parameter k of method m comes to a local
abbrev pub enter : (m k local : ℕ) → List Constraint
enter m k local = copy (Param m k) (Before m 0 local)

-- parameters of these types come to the locals of method m, the first to a parameter and a local of these numbers
abbrev pub enter_types : (m k local : ℕ) → List JavaType → List Constraint
enter_types m k local [] = []
enter_types m k local (type ∷ types) = enter m k local ++ enter_types m (suc k) (local + words_of type.kind) types

-- the parameters of a method come to its locals, a receiver first where it has one
abbrev pub enter_among : (m : ℕ) (receiver : Bool) → List JavaType → List Constraint
enter_among m true types = enter m 0 0 ++ enter_types m 1 1 types
enter_among m false types = enter_types m 0 0 types

-- the parameters of a method come to its locals
abbrev pub enters : (m : ℕ) → Method → List Constraint
enters m method = enter_among m (is_member method.flags) (param_types method)

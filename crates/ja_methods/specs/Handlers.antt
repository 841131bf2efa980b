-- The exception table of a method, by indices of instructions (JVM specification 4.7.3).
use Rattle.std.specs.Prelude.{◌≡◌, ℕ, ◌==◌, ◌⊎◌, List, Option, Some, None, map, if◌then◌else◌}
use Rattle.ja_base.specs.Tag as pool_tag
use Rattle.ja_pool.specs.Table.{Table, tag_at, class_name_at}
use Rattle.ja_code.specs.declared.instr.RawInstr.{RawInstr}
use Rattle.ja_code.specs.declared.handler.RawHandler.{RawHandler}
use Rattle.ja_ir.specs.declared.head.ClassHead.{ClassHead}
use Rattle.ja_ir.specs.declared.method.Handler.{Handler}
use Rattle.ja_ir.specs.declared.method.Catch.{Catch}
use Rattle.ja_ir.specs.declared.method.Catch.TheVariants.{All as Everything, Program as InClass, Library as InLibrary}
use Rattle.ja_supertypes.specs.Supertypes.{class_named}
use Rattle.ja_methods.specs.Places.{index_of}

-- an entry names a class to be caught, or 0 for all
abbrev pub NamesCaught : Table → (catch_type : ℕ) → Type 0
NamesCaught pool catch_type = (catch_type ≡ 0) ⊎ (tag_at pool catch_type ≡ pool_tag.class)

-- what is caught where this program class is named, if it is one
abbrev pub caught : Option ℕ → Catch
caught None = InLibrary
caught (Some c) = InClass (record { 0 = c })

-- what an entry catches: everything, the objects of a program class, or some objects of a library class
abbrev pub catch_of : List ClassHead → Table → (catch_type : ℕ) → Catch
catch_of heads pool catch_type = if catch_type == 0 then Everything else caught (class_named heads (class_name_at pool catch_type))

-- an entry by indices: its end is the first index past the range, which may be the number of instructions
abbrev pub handler_of : List ClassHead → Table → List RawInstr → RawHandler → Handler
handler_of heads pool instrs row =
    record { start = index_of instrs row.start; end = index_of instrs row.end; target = index_of instrs row.handler; catch = catch_of heads pool row.catch_type }

-- the table, in its order
abbrev pub handlers_of : List ClassHead → Table → List RawInstr → List RawHandler → List Handler
handlers_of heads pool instrs rows = map (handler_of heads pool instrs) rows

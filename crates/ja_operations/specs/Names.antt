-- What an instruction names in the constant pool (JVM specification 4.4, 6.5).
use Rattle.std.specs.Prelude.{ℕ, List}
use Rattle.ja_pool.specs.Table.{Table, class_name_at, member_class_at, member_name_at, member_desc_at}
use Rattle.ja_code.specs.declared.instr.RawInstr.{RawInstr}
use Rattle.ja_code.specs.Grammar.{operand_at}
use Rattle.ja_operations.specs.declared.member.MemberRef.{MemberRef}

-- the name of the class that it names
abbrev pub class_in : Table → RawInstr → List ℕ
class_in pool i = class_name_at pool (operand_at i 0)

-- the descriptor of the member that it names
abbrev pub desc_in : Table → RawInstr → List ℕ
desc_in pool i = member_desc_at pool (operand_at i 0)

-- the member that it names
abbrev pub member_in : Table → RawInstr → MemberRef
member_in pool i =
    record { class = member_class_at pool (operand_at i 0); name = member_name_at pool (operand_at i 0); desc = member_desc_at pool (operand_at i 0) }

-- What a class file of the profile gives for an instruction (JVM specification 4.9.1).
use Rattle.std.specs.Prelude.{◌≡◌, ◌≤◌, IsTrue, Some}
use Rattle.ja_base.specs.Tag as pool_tag
use Rattle.ja_bytes.specs.DescriptorText.{IsFieldDesc, IsMethodText}
use Rattle.ja_pool.specs.Table.{Table, is_member_tag}
use Rattle.ja_code.specs.declared.instr.RawInstr.{RawInstr}
use Rattle.ja_code.specs.declared.behaviour.Behaviour.{Behaviour}
use Rattle.ja_code.specs.declared.behaviour.Behaviour.TheVariants.{Access, Invoke, New, NewArrays, Cast, InstanceOf}
use Rattle.ja_code.specs.Behaviour.{behaviour_at}
use Rattle.ja_code.specs.Grammar.{operand_at}
use Rattle.ja_operations.specs.Names.{desc_in}
use Rattle.ja_kinds.specs.Effect.{tag_named}

-- the instruction names a class
abbrev pub NamesClass : Table → RawInstr → Type 0
NamesClass pool i = tag_named pool i ≡ pool_tag.class

-- it names a member, whose descriptor is that of a field
pub record NamesSomeField (pool : Table) (i : RawInstr) : Type 0 where
  pub tag : IsTrue (is_member_tag (tag_named pool i))
  pub desc : IsFieldDesc (desc_in pool i)

-- it names a member, whose descriptor is that of a method
pub record NamesSomeMethod (pool : Table) (i : RawInstr) : Type 0 where
  pub tag : IsTrue (is_member_tag (tag_named pool i))
  pub desc : IsMethodText (desc_in pool i)

-- an instruction of this behaviour names an entry of the pool that suits it
abbrev pub Suits : Table → RawInstr → Behaviour → Type 0
Suits pool i (Access how) = NamesSomeField pool i
Suits pool i (Invoke how) = NamesSomeMethod pool i
Suits pool i New = NamesClass pool i
Suits pool i NewArrays = NamesClass pool i × (operand_at i 1 ≤ 255)
Suits pool i Cast = NamesClass pool i
Suits pool i InstanceOf = NamesClass pool i
Suits pool i _ = Unit {0}

-- the instruction is one of the profile, and what it names suits it
pub record IsProfiled (pool : Table) (i : RawInstr) : Type 0 where
  pub behaviour : Behaviour
  pub opcode : behaviour_at i.opcode ≡ Some behaviour
  pub suits : Suits pool i behaviour

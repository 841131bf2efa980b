-- What the readers of effects answer.
use Rattle.std.specs.Prelude.{List, Option, Some, None}
use Rattle.ja_base.specs.declared.java_type.Kind.{Kind}
use Rattle.ja_pool.specs.Table.{Table}
use Rattle.ja_code.specs.declared.instr.RawInstr.{RawInstr}
use Rattle.ja_code.specs.declared.behaviour.Behaviour.{Behaviour}
use Rattle.ja_code.specs.declared.behaviour.Behaviour.TheVariants.{Loaded, Access, Invoke}
use Rattle.ja_kinds.specs.declared.effect.Effect.{Effect}
use Rattle.ja_kinds.specs.declared.reading.Part.{Part}
use Rattle.ja_kinds.specs.declared.reading.Part.TheVariants.{Nothing, Constant, Field, Method}
use Rattle.ja_kinds.specs.declared.pool_kinds.MethodKinds.{MethodKinds}
use Rattle.ja_kinds.specs.Effect.{NamesField, NamesMethod, HasEffect}

-- what of the pool the effect of a behaviour depends on
abbrev pub part_of : Behaviour → Part
part_of Loaded = Constant
part_of (Access how) = Field
part_of (Invoke how) = Method
part_of behaviour = Nothing

-- the kind of the field that an instruction names, or that it names none
abbrev pub FindsField : Table → RawInstr → Option Kind → Type 0
FindsField pool i None = (kind : Kind) → NamesField pool i kind → ⊥
FindsField pool i (Some kind) = NamesField pool i kind

-- the same of a method
abbrev pub FindsMethod : Table → RawInstr → Option MethodKinds → Type 0
FindsMethod pool i None = (taken : List Kind) (given : Option Kind) → NamesMethod pool i taken given → ⊥
FindsMethod pool i (Some kinds) = NamesMethod pool i kinds.taken kinds.given

-- the effect of a behaviour, or that it has none
abbrev pub Finds : Table → RawInstr → Behaviour → Option Effect → Type 0
Finds pool i behaviour None = (effect : Effect) → HasEffect pool i behaviour effect → ⊥
Finds pool i behaviour (Some effect) = HasEffect pool i behaviour effect

-- Instructions of the first form (JVM specification, 6.5): how they are spelled, and what they do.
use Rattle.std.specs.Prelude.{◌≡◌, ℕ, ◌+◌, ◌^◌, ◌<◌, ◌≤◌, ◌⊎◌, List, [], ◌∷◌, length, Some}
use Rattle.std.specs.Int.{w16, to_be_bytes}
use Rattle.ja_code.specs.Number as number
use Rattle.ja_class.specs.Pool.{PoolEntry, String, Methodref, entry_at, IsSource, IsSink}
use Rattle.ja_class.specs.declared.first.FirstOp.{FirstOp}
use Rattle.ja_class.specs.declared.first.FirstOp.TheVariants.{Load, Store, Text, Pop, Source, Sink, Return}
use Rattle.ja_class.specs.declared.first.FirstInstr.{FirstInstr}

-- an instruction with its operand; `aload_n` and `astore_n` are the short forms
pub data Instruction : Type 0 where
  aload : (local : ℕ) → Instruction
  aload_n : (local : ℕ) → Instruction
  astore : (local : ℕ) → Instruction
  astore_n : (local : ℕ) → Instruction
  ldc : (index : ℕ) → Instruction
  pop : Instruction
  invokestatic : (index : ℕ) → Instruction
  return : Instruction

-- the bytes of an instruction
abbrev pub bytes_of : Instruction → List ℕ
bytes_of (aload local) = number.aload ∷ local ∷ []
bytes_of (aload_n local) = (number.aload_0 + local) ∷ []
bytes_of (astore local) = number.astore ∷ local ∷ []
bytes_of (astore_n local) = (number.astore_0 + local) ∷ []
bytes_of (ldc index) = number.ldc ∷ index ∷ []
bytes_of pop = number.pop ∷ []
bytes_of (invokestatic index) = number.invokestatic ∷ to_be_bytes w16 index
bytes_of return = number.return ∷ []

-- an instruction's operand fits its field, and names an entry that it must; the instruction does this operation
abbrev pub Does : List PoolEntry → Instruction → FirstOp → Type 0
Does pool (aload local) op = (local < 2 ^ 8) × (op ≡ Load local)
Does pool (aload_n local) op = (local ≤ 3) × (op ≡ Load local)
Does pool (astore local) op = (local < 2 ^ 8) × (op ≡ Store local)
Does pool (astore_n local) op = (local ≤ 3) × (op ≡ Store local)
Does pool (ldc index) op = (index < 2 ^ 8) × ((text : ℕ) × (entry_at pool index ≡ Some (String text))) × (op ≡ Text)
Does pool pop op = op ≡ Pop
Does pool (invokestatic index) op =
    (class : ℕ) × (name_and_type : ℕ) × (entry_at pool index ≡ Some (Methodref class name_and_type))
    × ((IsSource pool class name_and_type × (op ≡ Source)) ⊎ (IsSink pool class name_and_type × (op ≡ Sink)))
Does pool return op = op ≡ Return

-- the code is these instructions one after another, the first at this offset
abbrev pub IsCodeFrom : List PoolEntry → (pc : ℕ) → List Instruction → List FirstInstr → Type 0
IsCodeFrom pool pc [] code = code ≡ []
IsCodeFrom pool pc (i ∷ is) [] = ⊥
IsCodeFrom pool pc (i ∷ is) (c ∷ code) = (c.pc ≡ pc) × Does pool i c.op × IsCodeFrom pool (pc + length (bytes_of i)) is code

-- Instructions to which control comes otherwise than from the one before them.
use Rattle.std.specs.Prelude.{◌≡◌, ℕ, ◌+◌, ◌<◌, Bool, true, List, Some, Contains, length, slice_get, slice_index}
use Rattle.ja_sets.specs.Sets.{Has, Lacks}
use Rattle.ja_ir.specs.declared.method.Method.{Method}
use Rattle.ja_ir.specs.declared.method.Instr.{Instr}
use Rattle.ja_ir.specs.declared.method.Handler.{Handler}

-- the set has each target that is not the next index of the instruction at i
abbrev pub HasJumps : (set : List Bool) (i : ℕ) (next : List ℕ) → Type 0
HasJumps set i next = (k : ℕ) → k < length next → (slice_index next k ≡ i + 1 → ⊥) → Has set (slice_index next k)

-- the set has all that another has, and is below the same bound
pub record Keeps (old new : List Bool) : Type 0 where
  pub size : length new ≡ length old
  pub has : (x : ℕ) → Has old x → Has new x

-- the set has the targets of the first so many instructions that are not next to them
abbrev pub HasAllJumps : (set : List Bool) (code : List Instr) (count : ℕ) → Type 0
HasAllJumps set code count = (i : ℕ) (instr : Instr) → i < count → slice_get code i ≡ Some instr → HasJumps set i instr.next

-- the set has the targets of handlers
abbrev pub HasTargets : (set : List Bool) → List Handler → Type 0
HasTargets set handlers = (k : ℕ) (handler : Handler) → slice_get handlers k ≡ Some handler → Has set handler.target

-- the set has each instruction of the method to which a jump or a handler leads
pub record AreJoins (method : Method) (set : List Bool) : Type 0 where
  pub size : length set ≡ length method.code
  pub jumps : HasAllJumps set method.code (length method.code)
  pub targets : HasTargets set method.handlers

-- the instruction is reached and goes on to the next one, to which nothing else leads
pub record GoesOn (before : Instr) (set : List Bool) (next : ℕ) : Type 0 where
  pub reached : before.reached ≡ true
  pub listed : Contains before.next next
  pub single : Lacks set next

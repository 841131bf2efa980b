-- Blocks: the longest straight runs of a method's instructions.
use Rattle.std.specs.Prelude.{◌≡◌, ℕ, suc, ◌<◌, ◌≤◌, ◌⊎◌, ◌↔◌, Bool, true, false, List, Some, All, AllPairs, Contains, length, slice_get}
use Rattle.ja_ir.specs.declared.block.Block.{Block}
use Rattle.ja_ir.specs.declared.method.Method.{Method}
use Rattle.ja_ir.specs.declared.method.Instr.{Instr}
use Rattle.ja_ir.specs.declared.method.Handler.{Handler}
use Rattle.ja_ir.specs.declared.op.Op.{Op}
use Rattle.ja_ir.specs.declared.op.Op.TheVariants.{Branch, New, Return, GetStatic, PutStatic, Call, Throw}
use Rattle.ja_ir.specs.declared.op.CallKind.{CallKind}
use Rattle.ja_ir.specs.declared.op.CallKind.TheVariants.{Static}

-- the operation is a branch
abbrev pub is_branch : Op → Bool
is_branch (Branch _) = true
is_branch _ = false

-- a block ends with the operation
abbrev pub ends_block : Op → Bool
ends_block (Branch _) = true
ends_block (Return _) = true
ends_block (Call _) = true
ends_block Throw = true
ends_block _ = false

-- the call is one of a static method
abbrev pub is_static_call : CallKind → Bool
is_static_call Static = true
is_static_call _ = false

-- the operation may initialise a class, whatever class it names
abbrev pub may_initialize : Op → Bool
may_initialize (New _) = true
may_initialize (GetStatic _) = true
may_initialize (PutStatic _) = true
may_initialize (Call call) = is_static_call call.kind
may_initialize _ = false

-- a block begins at this index: it is the first, a branch or a handler leads there, it may initialise a class, or a block ends before it
pub data IsLeader (method : Method) : ℕ → Type 0 where
  begins : IsLeader method 0
  branched : {j : ℕ} (i : ℕ) (instr : Instr) → slice_get method.code i ≡ Some instr → is_branch instr.op ≡ true → Contains instr.next j → IsLeader method j
  handles : {j : ℕ} (k : ℕ) (handler : Handler) → slice_get method.handlers k ≡ Some handler → handler.target ≡ j → IsLeader method j
  initializes : {j : ℕ} (instr : Instr) → slice_get method.code j ≡ Some instr → may_initialize instr.op ≡ true → IsLeader method j
  follows : {j : ℕ} (i : ℕ) (instr : Instr) → slice_get method.code i ≡ Some instr → ends_block instr.op ≡ true → suc i ≡ j → IsLeader method j

-- the instructions from first to last are one block: it begins at a leader, no other leader is in it, and it goes on as far as it can
pub record IsBlock (method : Method) (block : Block) : Type 0 where
  pub leader : IsLeader method block.first
  pub ordered : block.first ≤ block.last
  pub inside : block.last < length method.code
  pub straight : (i : ℕ) → block.first < i → i ≤ block.last → IsLeader method i → ⊥
  pub ends : (suc block.last ≡ length method.code) ⊎ IsLeader method (suc block.last)

-- the list has the blocks of the method and nothing else, in the order of the code
pub record AreBlocks (method : Method) (blocks : List Block) : Type 0 where
  pub exact : (block : Block) → Contains blocks block ↔ IsBlock method block
  pub sorted : AllPairs (λ a b. a.last < b.first) blocks

-- the next instructions and the handlers of a method name only its own instructions
pub record StaysInside (method : Method) : Type 0 where
  pub next : All (λ instr. All (λ j. j < length method.code) instr.next) method.code
  pub handlers : All (λ handler. handler.target < length method.code) method.handlers

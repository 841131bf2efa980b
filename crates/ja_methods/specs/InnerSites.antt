-- How the sink calls of a method are found, one instruction after the other. Only private functions cite this.
use Rattle.std.specs.Prelude.{◌≡◌, ℕ, List, [], ◌∷◌, ◌++◌}
use Rattle.ja_ir.specs.declared.head.ClassHead.{ClassHead}
use Rattle.ja_ir.specs.declared.method.Instr.{Instr}
use Rattle.ja_ir.specs.declared.op.CallOp.{CallOp}
use Rattle.ja_ir.specs.declared.op.Op.TheVariants.{Call}
use Rattle.ja_operations.specs.Sites.{IsSite}
use Rattle.ja_methods.specs.declared.site.MethodSite.{MethodSite}

-- an instruction is no sink call
abbrev pub IsSilent : List ClassHead → Instr → Type 0
IsSilent heads instr = (call : CallOp) (positions target : List ℕ) → instr.op ≡ Call call → IsSite heads call positions target → ⊥

-- the sink calls with that of the instruction of one more index, if it is one
pub data Joins (heads : List ClassHead) (index : ℕ) (instr : Instr) (old : List MethodSite) : List MethodSite → Type 0 where
  silent : IsSilent heads instr → Joins heads index instr old old
  sounding : (call : CallOp) (site : MethodSite) → instr.op ≡ Call call → site.index ≡ index → IsSite heads call site.positions site.target
      → site.category ≡ call.row.category
      → Joins heads index instr old (old ++ site ∷ [])

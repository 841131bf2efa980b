-- The sink calls of a method.
use Rattle.std.specs.Prelude.{◌≡◌, ◌<◌, ◌↔◌, ℕ, List, Some, AllPairs, Contains, slice_get}
use Rattle.ja_ir.specs.declared.head.ClassHead.{ClassHead}
use Rattle.ja_ir.specs.declared.method.Instr.{Instr}
use Rattle.ja_ir.specs.declared.op.CallOp.{CallOp}
use Rattle.ja_ir.specs.declared.op.Op.TheVariants.{Call}
use Rattle.ja_operations.specs.Sites.{IsSite}
use Rattle.ja_methods.specs.declared.site.MethodSite.{MethodSite}

-- the instruction of the site's index is a call, and a sink call of these positions and this target, about the category of its row
pub record IsSiteAt (heads : List ClassHead) (list : List Instr) (site : MethodSite) : Type 0 where
  pub instr : Instr
  pub found : slice_get list site.index ≡ Some instr
  pub call : CallOp
  pub is_call : instr.op ≡ Call call
  pub is_site : IsSite heads call site.positions site.target
  pub category_is : site.category ≡ call.row.category

-- the list has the sink calls among the instructions and nothing else, in their order
pub record AreSitesOf (heads : List ClassHead) (list : List Instr) (sites : List MethodSite) : Type 0 where
  pub exact : (site : MethodSite) → Contains sites site ↔ IsSiteAt heads list site
  pub sorted : AllPairs (λ a b. a.index < b.index) sites

-- What a whole program asks of each method, as far as other methods have no part in it.
use Rattle.std.specs.Prelude.{◌≡◌, ℕ, ◌+◌, ◌<◌, ◌≤◌, ◌↔◌, true, false, List, Some, All, length, slice_get}
use Rattle.ja_base.specs.Limit.{max_frame_values}
use Rattle.ja_base.specs.Descriptor.{AreTypes}
use Rattle.ja_ir.specs.declared.head.ClassHead.{ClassHead}
use Rattle.ja_ir.specs.declared.method.Method.{Method}
use Rattle.ja_ir.specs.declared.method.Instr.{Instr}
use Rattle.ja_ir.specs.declared.method.Handler.{Handler}
use Rattle.ja_ir.specs.declared.method.Catch.{Catch}
use Rattle.ja_ir.specs.declared.method.Catch.TheVariants.{All as Everything, Program as InClass, Library as InLibrary}
use Rattle.ja_ir.specs.declared.op.CallOp.{CallOp}
use Rattle.ja_ir.specs.declared.op.Op.TheVariants.{Call}
use Rattle.ja_ir.specs.Operations.{arguments}
use Rattle.ja_ir.specs.Lookup.{is_abstract, HasCode}
use Rattle.ja_ir.specs.Whole.{ReturnsAs, Starts, Runs}
use Rattle.ja_operations.specs.Agreement.{IsSound}
use Rattle.ja_methods.specs.declared.site.MethodSite.{MethodSite}

-- the class that a handler names is one of these
abbrev pub NamesOneOf : List ClassHead → Catch → Type 0
NamesOneOf heads Everything = Unit {0}
NamesOneOf heads (InClass class) = class.0 < length heads
NamesOneOf heads InLibrary = Unit {0}

-- the range and the target of a handler lie in a method of so many instructions
pub record LiesWithin (heads : List ClassHead) (size : ℕ) (handler : Handler) : Type 0 where
  pub start : handler.start < size
  pub end : handler.end ≤ size
  pub target : handler.target < size
  pub class : NamesOneOf heads handler.catch

-- the frame is small, the types are those of the descriptor, the method has code exactly where it is not abstract, its instructions and handlers
-- name only its own instructions and the program's classes, it can begin, each reached instruction can go on, and its returns
-- agree with its types
pub record IsWholeIn (heads : List ClassHead) (method : Method) : Type 0 where
  pub frame : method.locals + method.stack ≤ max_frame_values
  pub spelled : AreTypes method.desc method.types
  pub code : HasCode method ↔ (is_abstract method.flags ≡ false)
  pub next : All (λ instr. All (λ j. j < length method.code) instr.next) method.code
  pub sound : All (λ instr. IsSound heads instr.op) method.code
  pub handlers : All (LiesWithin heads (length method.code)) method.handlers
  pub starts : HasCode method → Starts method
  pub runs : (i : ℕ) (instr : Instr) → slice_get method.code i ≡ Some instr → instr.reached ≡ true → Runs method i instr
  pub returns : All (λ instr. instr.reached ≡ true → ReturnsAs method.types.result instr.op) method.code

-- a site names a call among the instructions, its positions are below the number of that call's arguments, and it is about the category of
-- the call's row
pub record NamesCall (list : List Instr) (site : MethodSite) : Type 0 where
  pub instr : Instr
  pub call : CallOp
  pub found : slice_get list site.index ≡ Some instr
  pub is_call : instr.op ≡ Call call
  pub positions : All (λ k. k < arguments call) site.positions
  pub category : site.category ≡ call.row.category

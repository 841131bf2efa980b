-- Calls of which the report speaks: those that may pass a value to a sink.
use Rattle.std.specs.Prelude.{◌≡◌, ℕ, ◌<◌, ◌⊎◌, List, [], ◌∷◌, ◌++◌, Option, Some, None, length, nat_lt}
use Rattle.std.specs.List.{filter}
use Rattle.ja_ir.specs.declared.head.ClassHead.{ClassHead}
use Rattle.ja_ir.specs.declared.class.MethodAt.TheVariants.{Library}
use Rattle.ja_ir.specs.declared.op.CallOp.{CallOp}
use Rattle.ja_ir.specs.Operations.{arguments}
use Rattle.ja_operations.specs.declared.site.SinkCall.{SinkCall}
use Rattle.ja_operations.specs.Targets.{FindsFrom}

-- the sinks of the call's row that are among its arguments
abbrev pub sinks_of : CallOp → List ℕ
sinks_of call = filter (λ k. nat_lt k (arguments call)) call.row.sinks

-- no program class has the method that the call names
abbrev pub IsForeign : List ClassHead → CallOp → Type 0
IsForeign heads call = FindsFrom heads call.class call.name call.desc Library

-- what is called, as it is printed: the class, '.', the name and the descriptor
abbrev pub target_of : CallOp → List ℕ
target_of call = call.class ++ 46 ∷ (call.name ++ call.desc)

-- the call is a site with these sinks: some of its arguments are, and no program class has the method
pub record IsSite (heads : List ClassHead) (call : CallOp) (positions target : List ℕ) : Type 0 where
  pub positions_are : positions ≡ sinks_of call
  pub some : 0 < length positions
  pub foreign : IsForeign heads call
  pub target_is : target ≡ target_of call

-- the call is none
abbrev pub IsNoSite : List ClassHead → CallOp → Type 0
IsNoSite heads call = (sinks_of call ≡ []) ⊎ (IsForeign heads call → ⊥)

-- a call is a site of these sinks and this target, or it is none
abbrev pub IsSiteOrNone : List ClassHead → CallOp → Option SinkCall → Type 0
IsSiteOrNone heads call None = IsNoSite heads call
IsSiteOrNone heads call (Some site) = IsSite heads call site.positions site.target

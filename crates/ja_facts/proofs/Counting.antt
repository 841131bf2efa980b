-- How many parameters a method has.
use Rattle.std.proofs.Common.{◌≡◌, ℕ, ◌+◌, not, Bool, true, false, List, [], ◌∷◌, length, ap, sym, suc, ◌∙◌, arith}
use Rattle.ja_base.specs.declared.java_type.JavaType.{JavaType}
use Rattle.ja_ir.specs.Operations.{count_of}
use Rattle.ja_ir.specs.Lookup.{is_member, is_static}
use Rattle.ja_ir.specs.Params.{params_among}

-- the parameters are those types and the receiver
pub params_among-is : (receiver : Bool) (types : List JavaType) → params_among receiver types ≡ count_of receiver + length types
params_among-is receiver [] = omega arith
params_among-is receiver (type ∷ types) = ap suc (params_among-is receiver types) ∙ omega arith

pub with_receiver : (flags types : ℕ) (params : List JavaType) → is_static flags ≡ false → types ≡ length params → types + 1 ≡ params_among (is_member flags) params
with_receiver flags types params e h =
    omega (arith, h, params_among-is true params) ∙ ap (λ b. params_among (not b) params) (sym e)

pub without_receiver : (flags types : ℕ) (params : List JavaType) → is_static flags ≡ true → types ≡ length params → types ≡ params_among (is_member flags) params
without_receiver flags types params e h =
    omega (arith, h, params_among-is false params) ∙ ap (λ b. params_among (not b) params) (sym e)

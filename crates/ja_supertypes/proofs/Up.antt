-- The way up through superclasses.
use Rattle.std.proofs.Common.{◌≡◌, ℕ, ◌<◌, ◌⊎◌, inl, inr, List, length, refl, sym, subst}
use Rattle.std.specs.Prelude.{Option, Some, None}
use Rattle.ja_ir.specs.declared.head.ClassHead.{ClassHead}
use Rattle.ja_supertypes.specs.Supertypes.{superclass_of, IsSupertype, direct, through, IsSuperclass, next, further}
use Rattle.ja_supertypes.proofs.Falls.{superclass-target, superclass-direct}

-- class d is met on the way up from a class, if there is one
pub data IsUp (heads : List ClassHead) : (at : Option ℕ) (d : ℕ) → Type 0 where
  stands : {d : ℕ} → IsUp heads (Some d) d
  higher : {c d : ℕ} → IsUp heads (superclass_of heads c) d → IsUp heads (Some c) d

pub up-from : (heads : List ClassHead) (c d : ℕ) → IsSuperclass heads c d → IsUp heads (superclass_of heads c) d
up-from heads c d (next e) = subst (λ (o : Option ℕ). IsUp heads o d) (sym e) stands
up-from heads c d (further m e s) = subst (λ (o : Option ℕ). IsUp heads o d) (sym e) (higher (up-from heads m d s))

pub superclass-from : (heads : List ClassHead) (at : Option ℕ) (d : ℕ) → IsUp heads at d → (c : ℕ) → superclass_of heads c ≡ at → IsSuperclass heads c d
superclass-from heads at d stands c e = next e
superclass-from heads at d (higher {c = m} u) c e = further m e (superclass-from heads (superclass_of heads m) d u m refl)

-- what stands at a place of the way up, or is met above it
abbrev pub UpCase : List ClassHead → (at : Option ℕ) (d : ℕ) → Type 0
UpCase heads None d = ⊥
UpCase heads (Some c) d = (c ≡ d) ⊎ IsUp heads (superclass_of heads c) d

pub up-case : (heads : List ClassHead) (at : Option ℕ) (d : ℕ) → IsUp heads at d → UpCase heads at d
up-case heads at d stands = inl refl
up-case heads at d (higher u) = inr u

pub proper-inside : (heads : List ClassHead) (c d : ℕ) → IsSuperclass heads c d → d < length heads
proper-inside heads c d (next e) = superclass-target heads c d e
proper-inside heads c d (further m e s) = proper-inside heads m d s

-- one step more at the top
pub superclass-more : (heads : List ClassHead) (c m d : ℕ) → IsSuperclass heads c m → superclass_of heads m ≡ Some d → IsSuperclass heads c d
superclass-more heads c m d (next e) f = further m e (next f)
superclass-more heads c m d (further n e s) f = further n e (superclass-more heads n m d s f)

-- a superclass is a supertype
pub superclass-supertype : (heads : List ClassHead) (c d : ℕ) → IsSuperclass heads c d → IsSupertype heads c d
superclass-supertype heads c d (next e) = direct (superclass-direct heads c d e)
superclass-supertype heads c d (further m e s) = through m (direct (superclass-direct heads c m e)) (superclass-supertype heads m d s)

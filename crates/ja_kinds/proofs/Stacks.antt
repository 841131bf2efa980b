-- Lists of kinds.
use Rattle.std.proofs.Common.{◌≡◌, ◌≢◌, suc, Bool, true, false, ◌&&◌, ◌||◌, List, [], ◌∷◌, length, refl, ap}
use Rattle.ja_base.specs.declared.java_type.Kind.{Kind}
use Rattle.ja_base.specs.declared.java_type.Kind.TheVariants.{T}
use Rattle.ja_kinds.specs.Frame.{same_kind, same_kinds}
use Rattle.ja_kinds.specs.InnerMerge.{are_below}

no_and : (b c : Bool) → c ≡ false → (b && c) ≡ false
no_and true c e = e
no_and false c e = refl

-- lists of different lengths do not have the same kinds
pub unlike : (ks ls : List Kind) → length ks ≢ length ls → same_kinds ks ls ≡ false
unlike [] [] d = absurd (d refl)
unlike [] (l ∷ ls) d = refl
unlike (k ∷ ks) [] d = refl
unlike (k ∷ ks) (l ∷ ls) d = no_and (same_kind k l) (same_kinds ks ls) (unlike ks ls (λ e. d (ap suc e)))

pub not_below : (ks ls : List Kind) → length ks ≢ length ls → are_below ks ls ≡ false
not_below [] [] d = absurd (d refl)
not_below [] (l ∷ ls) d = refl
not_below (k ∷ ks) [] d = refl
not_below (k ∷ ks) (l ∷ ls) d = no_and (same_kind k l || same_kind l T) (are_below ks ls) (not_below ks ls (λ e. d (ap suc e)))

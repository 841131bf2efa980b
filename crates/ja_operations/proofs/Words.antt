-- Words of values.
use Rattle.std.proofs.Common.{◌≡◌, ◌≢◌, ℕ, suc, Bool, true, false, ◌&&◌, List, [], ◌∷◌, length, refl, ap}
use Rattle.std.specs.Prelude.{◌==◌}
use Rattle.ja_base.specs.declared.java_type.Kind.{Kind}
use Rattle.ja_base.specs.Kind.{words_of}
use Rattle.ja_operations.specs.Shuffles.{have_words}

no_and : (b c : Bool) → c ≡ false → (b && c) ≡ false
no_and true c e = e
no_and false c e = refl

-- fewer or more values than words do not have them
pub unlike : (ks : List Kind) (ws : List ℕ) → length ks ≢ length ws → have_words ks ws ≡ false
unlike [] [] d = absurd (d refl)
unlike [] (w ∷ ws) d = refl
unlike (k ∷ ks) [] d = refl
unlike (k ∷ ks) (w ∷ ws) d = no_and (words_of k == w) (have_words ks ws) (unlike ks ws (λ e. d (ap suc e)))

-- A site whose flag is false is never passed a tainted value.
use Rattle.std.proofs.Common.{◌≡◌, ◌≢◌, ℕ, Bool, true, false, List, [], ◌∷◌, refl, subst}
use Rattle.std.specs.Prelude.{◌↔◌, IsTrue}
use Rattle.ja_class.specs.declared.first.FirstMethod.{FirstMethod}
use Rattle.ja_plain.specs.Verdict.{IsWarned, sites_from, AreVerdictsAt, AreVerdicts}
use Rattle.ja_plain.specs.Environment.{program_run, events_in}
use Rattle.ja_plain.specs.Covers.{NeverListed, AreCleanAt, AreClean}
use Rattle.ja_plain.proofs.Rounds.{each-in}
use Rattle.ja_plain.proofs.Environments.{warned}

module _ (m : FirstMethod) where
  none-listed : (positions : List ℕ) → (positions ≢ [] → ⊥) → positions ≡ []
  none-listed [] h = refl
  none-listed (p ∷ ps) h = absurd (h (λ e. cc))

  never-listed : (i : ℕ) (flag : Bool) → (IsTrue flag ↔ IsWarned m i) → flag ≡ false → NeverListed m i
  never-listed i flag verdict clean actions =
      each-in (λ e. e.positions ≢ [] → IsWarned m e.site) (λ e. e.site ≡ i → e.positions ≡ []) (λ e is-warned at. none-listed e.positions (λ some. absurd (not-flagged (subst (IsWarned m) at (is-warned some))))) (events_in (program_run m actions)) (warned m actions) where
        not-flagged : IsWarned m i → ⊥
        not-flagged w = let flagged : flag ≡ true = verdict.1 w in cc

  clean-at : (sites : List ℕ) (flags : List Bool) → AreVerdictsAt m sites flags → AreCleanAt m sites flags
  clean-at [] flags v = tt
  clean-at (i ∷ is) [] v = absurd v
  clean-at (i ∷ is) (flag ∷ flags) v = (never-listed i flag v.0, clean-at is flags v.1)

  pub clean : (flags : List Bool) → AreVerdicts m flags → AreClean m flags
  clean flags v = clean-at (sites_from 0 m.code) flags v

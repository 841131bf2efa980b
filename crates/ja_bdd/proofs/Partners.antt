-- A list of numbers in which each place gets its own number, one after the other.
use Rattle.std.proofs.Common.{◌≡◌, ℕ, ◌+◌, ◌<◌, ◌≤◌, List, length, set, get_or, sym, ap, ◌∙◌, subst, arith, length-set, get_or-set_same}
use Rattle.std.specs.Prelude.{slice_index}
use Rattle.std.specs.List.{All}
use Rattle.std.proofs.lemmas.List.{get_or-set_other, get_or_past}
use mathlib.Core.Logic.{dite}
use native.Mathlib.Decide.{ℕ_discrete, dec_lt}
use Rattle.ja_bdd.specs.declared.renaming.Renaming.{Renaming}
use Rattle.ja_bdd.specs.Variables.{partner_of}

pub put_small : (ps : List ℕ) (v x : ℕ) → All (λ p. p ≤ 4094) ps → x ≤ 4094 → All (λ p. p ≤ 4094) (set ps v x)
put_small ps v x small le k d lt =
    let within : k < length ps = (let same = length-set ps v x in omega arith) in
    dite (ℕ_discrete k v)
    (λ e. subst (λ j. get_or (set ps v x) j d ≤ 4094) (sym e) (subst (λ p. p ≤ 4094) (sym (get_or-set_same ps v x d (subst (λ j. j < length ps) e within))) le))
    (λ ne. subst (λ p. p ≤ 4094) (sym (get_or-set_other ps v k x d ne)) (small k d within))

pub put_own : (ps : List ℕ) (v : ℕ) → v < length ps → ((u : ℕ) → u < v → slice_index ps u ≡ u) → (u : ℕ) → u < v + 1 → slice_index (set ps v v) u ≡ u
put_own ps v lt own u less = dite (ℕ_discrete u v)
    (λ e. ap (λ j. slice_index (set ps v v) j) e ∙ get_or-set_same ps v v 0 lt ∙ sym e)
    (λ ne. get_or-set_other ps v u v 0 ne ∙ own u (omega arith))

-- each partner is a variable
pub partner_small : (m : Renaming) → (v : ℕ) → partner_of m v ≤ 4094
partner_small m v = dite (dec_lt v (length m.partners)) (λ lt. m.small v 0 lt) (λ not. subst (λ x. x ≤ 4094) (sym (get_or_past m.partners v 0 (omega arith))) (omega arith))

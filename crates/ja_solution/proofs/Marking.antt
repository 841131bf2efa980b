-- What is marked after more was marked.
use Rattle.std.proofs.Common.{◌≡◌, ◌⊎◌, ℕ, ◌<◌, Bool, true, false, List, length, get_or, set, refl, ap, ◌∙◌, ⊎_elim, arith}
use Rattle.std.proofs.lemmas.List.{get_or-set_other, get_or-set_same, length-set}
use native.Mathlib.Decide.{ℕ_discrete}
use mathlib.Core.Logic.{dite}
use Rattle.ja_solution.specs.InnerMarks.{AreMarked}

pub marked_none : (xs : List Bool) (P : ℕ → Type 0) → ((k : ℕ) → k < length xs → P k → ⊥) → AreMarked xs xs P
marked_none xs P none = record { counted = refl; kept = λ k is. is; marked = λ k lt p. absurd (none k lt p) }

pub marked_one : (xs : List Bool) (i : ℕ) → i < length xs → AreMarked xs (set xs i true) (λ k. k ≡ i)
marked_one xs i lt = record {
  counted = length-set xs i true;
  kept = λ k is. dite (ℕ_discrete k i) (λ e. here k e) (λ ne. get_or-set_other xs i k true false ne ∙ is);
  marked = λ k within e. here k e;
}
  where
    here : (k : ℕ) → k ≡ i → get_or (set xs i true) k false ≡ true
    here k e = ap (λ j. get_or (set xs i true) j false) e ∙ get_or-set_same xs i true false lt

pub marked_then : (xs ys zs : List Bool) (P Q R : ℕ → Type 0) → AreMarked xs ys P → AreMarked ys zs Q → ((k : ℕ) → R k → P k ⊎ Q k) → AreMarked xs zs R
marked_then xs ys zs P Q R first second split = record {
  counted = second.counted ∙ first.counted;
  kept = λ k is. second.kept k (first.kept k is);
  marked = λ k lt r. ⊎_elim (λ p. second.kept k (first.marked k lt p)) (λ q. second.marked k (let long = first.counted in omega arith) q) (split k r);
}

pub marked_same : (xs ys : List Bool) (P Q : ℕ → Type 0) → AreMarked xs ys P → ((k : ℕ) → Q k → P k) → AreMarked xs ys Q
marked_same xs ys P Q first same = record { counted = first.counted; kept = first.kept; marked = λ k lt q. first.marked k lt (same k q) }

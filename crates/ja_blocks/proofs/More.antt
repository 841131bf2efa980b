-- What lists of numbers have after more was noted.
use Rattle.std.proofs.Common.{◌≡◌, ◌⊎◌, ℕ, ◌+◌, ◌<◌, ◌≤◌, List, [], ◌∷◌, ◌++◌, length, get_or, set, take, replicate, refl, sym, ap, ◌∙◌, subst, inl, inr, ⊎_elim, arith}
use Rattle.std.specs.Prelude.{◌↔◌, Contains}
use Rattle.std.proofs.lemmas.List.{get_or-set_other, get_or-set_same, take_more, length-set, length-replicate, get_or-replicate}
use Rattle.std.proofs.lemmas.List.Elements.{Contains-append_left, Contains-push, Contains-push_cases}
use mathlib.Core.Logic.{dite}
use native.Mathlib.Decide.{ℕ_discrete}
use Rattle.std.proofs.Math.Seq.{take-length}
use Rattle.ja_blocks.specs.Index.{InList, IsIndex, IsNoted}

pub noted_none : (lists : List (List ℕ)) (R : ℕ → ℕ → Type 0) → ((k x : ℕ) → R k x → ⊥) → IsNoted lists lists R
noted_none lists R none = record { counted = refl; exact = λ k x lt. (inl, λ e. ⊎_elim (λ p. p) (λ r. absurd (none k x r)) e) }

pub noted_then : (xs ys zs : List (List ℕ)) (R T U : ℕ → ℕ → Type 0) → IsNoted xs ys R → IsNoted ys zs T → ((k x : ℕ) → (R k x ⊎ T k x) ↔ U k x) → IsNoted xs zs U
noted_then xs ys zs R T U first second same = record { counted = second.counted ∙ first.counted; exact = λ k x lt. exact k x lt (let long = first.counted in omega arith) }
  where
    exact : (k x : ℕ) → k < length xs → k < length ys → InList zs k x ↔ (InList xs k x ⊎ U k x)
    exact k x lt less = (
      λ s. ⊎_elim (λ q. ⊎_elim (λ p. inl p) (λ r. inr ((same k x).0 (inl r))) ((first.exact k x lt).0 q)) (λ t. inr ((same k x).0 (inr t))) ((second.exact k x less).0 s),
      λ e. (second.exact k x less).1 (⊎_elim (λ p. inl ((first.exact k x lt).1 (inl p))) (λ u. ⊎_elim (λ r. inl ((first.exact k x lt).1 (inr r))) (λ t. inr t) ((same k x).1 u)) e),
    )

pub noted_same : (xs ys : List (List ℕ)) (R U : ℕ → ℕ → Type 0) → IsNoted xs ys R → ((k x : ℕ) → R k x ↔ U k x) → IsNoted xs ys U
noted_same xs ys R U first same = record {
  counted = first.counted;
  exact = λ k x lt. (
    λ q. ⊎_elim (λ p. inl p) (λ r. inr ((same k x).0 r)) ((first.exact k x lt).0 q),
    λ e. (first.exact k x lt).1 (⊎_elim (λ p. inl p) (λ u. inr ((same k x).1 u)) e),
  );
}

pub index_noted : (count : ℕ) (xs ys : List (List ℕ)) (R T U : ℕ → ℕ → Type 0) → IsIndex count xs R → IsNoted xs ys T → ((k x : ℕ) → (R k x ⊎ T k x) ↔ U k x) → IsIndex count ys U
index_noted count xs ys R T U first second same = record { counted = second.counted ∙ first.counted; exact = λ k x lt. exact k x lt (let long = first.counted in omega arith) }
  where
    exact : (k x : ℕ) → k < count → k < length xs → InList ys k x ↔ U k x
    exact k x lt less = (
      λ s. ⊎_elim (λ q. (same k x).0 (inl ((first.exact k x lt).0 q))) (λ t. (same k x).0 (inr t)) ((second.exact k x less).0 s),
      λ u. (second.exact k x less).1 (⊎_elim (λ r. inl ((first.exact k x lt).1 r)) (λ t. inr t) ((same k x).1 u)),
    )

pub index_same : (count : ℕ) (xs : List (List ℕ)) (R U : ℕ → ℕ → Type 0) → IsIndex count xs R → ((k x : ℕ) → R k x ↔ U k x) → IsIndex count xs U
index_same count xs R U first same = record { counted = first.counted; exact = λ k x lt. (λ s. (same k x).0 ((first.exact k x lt).0 s), λ u. (first.exact k x lt).1 ((same k x).1 u)) }

-- one list has one number more
pub noted : (lists : List (List ℕ)) (key number : ℕ) → key < length lists → IsNoted lists (set lists key (get_or lists key [] ++ number ∷ [])) (λ k x. (k ≡ key) × (x ≡ number))
noted lists key number lt = record { counted = length-set lists key (get_or lists key [] ++ number ∷ []); exact = λ k x within. exact k x }
  where
    exact : (k x : ℕ) → InList (set lists key (get_or lists key [] ++ number ∷ [])) k x ↔ (InList lists k x ⊎ ((k ≡ key) × (x ≡ number)))
    exact k x = dite (ℕ_discrete k key)
        (λ e.
        let here : get_or (set lists key (get_or lists key [] ++ number ∷ [])) k [] ≡ get_or lists key [] ++ number ∷ [] =
        ap (λ j. get_or (set lists key (get_or lists key [] ++ number ∷ [])) j []) e ∙ get_or-set_same lists key _ [] lt in
        let old : get_or lists k [] ≡ get_or lists key [] = ap (λ j. get_or lists j []) e in (
          (λ has. ⊎_elim (λ before. inl (subst (λ (xs : List ℕ). Contains xs x) (sym old) before)) (λ is. inr (e, sym is)) (Contains-push_cases (get_or lists key []) number x (subst (λ (xs : List ℕ). Contains xs x) here has))),
          (λ either. subst (λ (xs : List ℕ). Contains xs x) (sym here)
              (⊎_elim (λ before. Contains-append_left (get_or lists key []) (number ∷ []) x (subst (λ (xs : List ℕ). Contains xs x) old before))
              (λ is. subst (λ (y : ℕ). Contains (get_or lists key [] ++ number ∷ []) y) (sym is.1) (Contains-push (get_or lists key []) number)) either)),
        ))
        (λ ne.
        let other = get_or-set_other lists key k (get_or lists key [] ++ number ∷ []) [] ne in (
          (λ has. inl (subst (λ (xs : List ℕ). Contains xs x) other has)),
          (λ either. ⊎_elim (λ before. subst (λ (xs : List ℕ). Contains xs x) (sym other) before) (λ is. absurd (ne is.0)) either),
        ))

-- nothing is among the first none
pub taken_none : {X : Type 0} (xs : List X) (z : X) → Contains (take 0 xs) z → ⊥
taken_none xs z (k, lt, is) = absurd (omega arith)

-- one item more
pub taken_more : {X : Type 0} (xs : List X) (i : ℕ) (y z : X) → i < length xs → y ≡ get_or xs i y → (Contains (take i xs) z ⊎ (z ≡ y)) ↔ Contains (take (i + 1) xs) z
taken_more xs i y z lt is =
    let more : take (i + 1) xs ≡ take i xs ++ y ∷ [] = take_more xs i y lt ∙ ap (λ w. take i xs ++ w ∷ []) (sym is) in (
      (λ either. subst (λ ys. Contains ys z) (sym more) (⊎_elim (λ before. Contains-append_left (take i xs) (y ∷ []) z before) (λ e. subst (λ w. Contains (take i xs ++ y ∷ []) w) (sym e) (Contains-push (take i xs) y)) either)),
      (λ has. ⊎_elim (λ before. inl before) (λ e. inr (sym e)) (Contains-push_cases (take i xs) y z (subst (λ ys. Contains ys z) more has))),
    )

-- what is noted of one item more
pub noted_more : {X : Type 0} (xs : List X) (i : ℕ) (y : X) (name : ℕ → X) (number : ℕ) (R : ℕ → ℕ → Type 0) → i < length xs → y ≡ get_or xs i y → ((k x : ℕ) → R k x ↔ ((name k ≡ y) × (x ≡ number)))
    → (k x : ℕ) → ((Contains (take i xs) (name k) × (x ≡ number)) ⊎ R k x) ↔ (Contains (take (i + 1) xs) (name k) × (x ≡ number))
noted_more xs i y name number R lt is same k x =
    let more = taken_more xs i y (name k) lt is in (
      (λ either. ⊎_elim (λ before. (more.0 (inl before.0), before.1)) (λ r. let both = (same k x).0 r in (more.0 (inr both.0), both.1)) either),
      (λ has. ⊎_elim (λ before. inl (before, has.1)) (λ e. inr ((same k x).1 (e, has.1))) (more.1 has.0)),
    )

-- no list has a number
pub index_none : (lists : List (List ℕ)) (count : ℕ) → lists ≡ replicate count [] → IsIndex count lists (λ k x. ⊥)
index_none lists count is = record {
  counted = ap length is ∙ length-replicate count [];
  exact = λ k x lt. (
    λ has. none k x lt (subst (λ (xs : List (List ℕ)). Contains (get_or xs k []) x) is has),
    λ never. absurd never,
  );
}
  where
    none : (k x : ℕ) → k < count → Contains (get_or (replicate count []) k []) x → ⊥
    none k x lt has = let empty = subst (λ (xs : List ℕ). Contains xs x) (get_or-replicate count k [] [] lt) has in absurd (omega (arith, empty.1))

-- up to the end of a list
pub taken_all : {X : Type 0} (xs : List X) (i : ℕ) → length xs ≤ i → i ≤ length xs → take i xs ≡ xs
taken_all xs i from to = ap (λ n. take n xs) (let same : i ≡ length xs = omega arith in same) ∙ take-length xs

pub noted_all : {X : Type 0} (xs : List X) (i : ℕ) (name : ℕ → X) (number : ℕ) (old new : List (List ℕ)) → length xs ≤ i → i ≤ length xs
    → IsNoted old new (λ k x. Contains (take i xs) (name k) × (x ≡ number)) → IsNoted old new (λ k x. Contains xs (name k) × (x ≡ number))
noted_all {X} xs i name number old new from to is = subst (λ (ys : List X). IsNoted old new (λ k x. Contains ys (name k) × (x ≡ number))) (taken_all xs i from to) is

-- keys past the lists do not count
pub noted_within : (n : ℕ) (old new : List (List ℕ)) (P S : ℕ → Type 0) → length old ≤ n → IsNoted old new (λ k x. ((k < n) × P k) × S x) → IsNoted old new (λ k x. P k × S x)
noted_within n old new P S le is = record {
  counted = is.counted;
  exact = λ k x lt. (
    λ has. ⊎_elim (λ before. inl before) (λ r. inr (r.0.1, r.1)) ((is.exact k x lt).0 has),
    λ e. (is.exact k x lt).1 (⊎_elim (λ before. inl before) (λ r. inr (((omega (arith, lt, le)), r.0), r.1)) e),
  );
}

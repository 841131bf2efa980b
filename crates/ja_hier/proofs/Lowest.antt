-- The lowest of those that are sought, found in a list one by one.
use Rattle.std.proofs.Common.{rules, ◌≡◌, ℕ, ◌+◌, ◌<◌, ◌≤◌, ◌⊎◌, inl, inr, List, length, get_or, sym, ◌∙◌, subst, arith, refl}
use Rattle.std.specs.Prelude.{Option, Some, None, Contains, IfSome, IfNone}
use Rattle.std.proofs.lemmas.Bool.{cases_lt}
use Rattle.std.proofs.lemmas.List.{get_or_default}
use Rattle.ja_hier.specs.InnerIndex.{IsBelow, IsLowest}

-- class e is not lower than the lowest so far
abbrev pub IsNotLower : (Above : (c d : ℕ) → Type 0) → (lowest : Option ℕ) → (e : ℕ) → Type 0
IsNotLower Above None e = ⊥
IsNotLower Above (Some d) e = (d ≡ e) ⊎ Above d e

-- the lowest of those that are sought among the first items of a list
pub record IsLowestSoFar (Sought : ℕ → Type 0) (Above : (c d : ℕ) → Type 0) (xs : List ℕ) (i : ℕ) (lowest : Option ℕ) : Type 0 where
  pub sought : (d : ℕ) → lowest ≡ Some d → Sought d
  pub each : (j : ℕ) → j < i → Sought (get_or xs j 0) → IsNotLower Above lowest (get_or xs j 0)

pub lowest-begin : (Sought : ℕ → Type 0) (Above : (c d : ℕ) → Type 0) (xs : List ℕ) → IsLowestSoFar Sought Above xs 0 None
lowest-begin Sought Above xs = record { sought = λ d e. absurd (cc e); each = λ j lt. absurd (omega arith) }

lower-than : (Above : (c d : ℕ) → Type 0) (o : Option ℕ) (x e : ℕ) → ((a b c : ℕ) → Above a b → Above b c → Above a c) → IsBelow Above o x → IsNotLower Above o e → Above x e
lower-than Above None x e chain below at = absurd at
lower-than Above (Some d) x e chain below (inl same) = subst (Above x) same below
lower-than Above (Some d) x e chain below (inr up) = chain x d e below up

-- a lower one is taken
pub lowest-taken : (Sought : ℕ → Type 0) (Above : (c d : ℕ) → Type 0) (xs : List ℕ) (i : ℕ) (old : Option ℕ) → ((a b c : ℕ) → Above a b → Above b c → Above a c) → IsBelow Above old (get_or xs i 0)
    → Sought (get_or xs i 0) → IsLowestSoFar Sought Above xs i old → IsLowestSoFar Sought Above xs (i + 1) (Some (get_or xs i 0))
lowest-taken Sought Above xs i old chain below here so-far = record {
  sought = λ d e. let same : get_or xs i 0 ≡ d = cc e in subst Sought same here;
  each = λ j lt at. elim (cases_lt j i) [
    | inl before ↦ inr (lower-than Above old (get_or xs i 0) (get_or xs j 0) chain below (so-far.each j before at))
    | inr last ↦ let e : i ≡ j = omega arith in inl (subst (λ (k : ℕ). get_or xs i 0 ≡ get_or xs k 0) e refl)
  ];
}

-- one that is not lower is passed
pub lowest-passed : (Sought : ℕ → Type 0) (Above : (c d : ℕ) → Type 0) (xs : List ℕ) (i : ℕ) (lowest : Option ℕ) → (Sought (get_or xs i 0) → IsNotLower Above lowest (get_or xs i 0))
    → IsLowestSoFar Sought Above xs i lowest → IsLowestSoFar Sought Above xs (i + 1) lowest
lowest-passed Sought Above xs i lowest here so-far = record {
  sought = so-far.sought;
  each = λ j lt. elim (cases_lt j i) [
    | inl before ↦ so-far.each j before
    | inr last ↦ let e : i ≡ j = omega arith in subst (λ (k : ℕ). Sought (get_or xs k 0) → IsNotLower Above lowest (get_or xs k 0)) e here
  ];
}

-- what the lowest of a whole list is, where the list has all that are sought
at-end : (Sought : ℕ → Type 0) (Above : (c d : ℕ) → Type 0) (xs : List ℕ) (n : ℕ) (lowest : Option ℕ) → length xs ≤ n → ((e : ℕ) → Sought e → Contains xs e) → IsLowestSoFar Sought Above xs n lowest
    → (e : ℕ) → Sought e → IsNotLower Above lowest e
at-end Sought Above xs n lowest le listed so-far e at =
    let in' : Contains xs e = listed e at in
    let is : get_or xs in'.0 0 ≡ e = get_or_default xs in'.0 0 e in'.1 ∙ in'.2 in
    subst (IsNotLower Above lowest) is (so-far.each in'.0 (omega (arith, in'.1)) (subst Sought (sym is) at))

pub lowest-found : (Sought : ℕ → Type 0) (Above : (c d : ℕ) → Type 0) (xs : List ℕ) (n : ℕ) (lowest : Option ℕ) → length xs ≤ n → ((e : ℕ) → Sought e → Contains xs e) → IsLowestSoFar Sought Above xs n lowest
    → IfSome lowest (IsLowest Sought Above)
lowest-found Sought Above xs n None le listed so-far = search rules
lowest-found Sought Above xs n (Some d) le listed so-far = record { sought = so-far.sought d refl; lowest = at-end Sought Above xs n (Some d) le listed so-far }

pub lowest-missing : (Sought : ℕ → Type 0) (Above : (c d : ℕ) → Type 0) (xs : List ℕ) (n : ℕ) (lowest : Option ℕ) → length xs ≤ n → ((e : ℕ) → Sought e → Contains xs e) → IsLowestSoFar Sought Above xs n lowest
    → IfNone lowest ((e : ℕ) → Sought e → ⊥)
lowest-missing Sought Above xs n None le listed so-far = at-end Sought Above xs n None le listed so-far
lowest-missing Sought Above xs n (Some d) le listed so-far = search rules

-- what holds of each that is sought holds of the lowest so far
pub if-some : (P : ℕ → Type 0) (o : Option ℕ) → ((d : ℕ) → o ≡ Some d → P d) → IfSome o P
if-some P None each = search rules
if-some P (Some d) each = each d refl

-- Numbers by names that are noted one after the other: of two of one name the first counts.
use Rattle.std.proofs.Common.{◌≡◌, inl, inr, ℕ, Bool, true, false, List, Option, Some, None, refl, sym, ap, subst, ◌∙◌}
use Rattle.std.specs.Prelude.{bytes_eq, is_some, if◌then◌else◌}
use Rattle.std.proofs.lemmas.Bool.{cases_Bool}
use Rattle.std.proofs.lemmas.Slice.Eq.{bytes_eq-Decides}
use Rattle.ja_tokens.specs.Numbers.{or_later}

keeps : (o later : Option ℕ) → is_some o ≡ true → o ≡ or_later o later
keeps (Some n) later some = refl
keeps None later some = absurd (cc some)

nothing-later : (o : Option ℕ) → o ≡ or_later o None
nothing-later (Some n) = refl
nothing-later None = refl

fresh : (o : Option ℕ) (n : ℕ) → is_some o ≡ false → Some n ≡ or_later o (Some n)
fresh (Some k) n none = absurd (cc none)
fresh None n none = refl

-- a name that has a number keeps it
pub already : (old : List ℕ → Option ℕ) (name other : List ℕ) (n : ℕ) → is_some (old name) ≡ true → old other ≡ or_later (old other) (if bytes_eq name other then Some n else None)
already old name other n some = elim (cases_Bool (bytes_eq name other)) [
  | inl same ↦ keeps (old other) (if bytes_eq name other then Some n else None) (subst (λ (x : List ℕ). is_some (old x) ≡ true) ((bytes_eq-Decides name other).0 same) some)
  | inr differs ↦ nothing-later (old other) ∙ sym (ap (λ (b : Bool). or_later (old other) (if b then Some n else None)) differs)
]

-- a name that had none gets one
pub gets : (old new : List ℕ → Option ℕ) (key name other : List ℕ) (n : ℕ) → is_some (old name) ≡ false → key ≡ name → new other ≡ (if bytes_eq key other then Some n else old other)
    → new other ≡ or_later (old other) (if bytes_eq name other then Some n else None)
gets old new key name other n none same is = elim (cases_Bool (bytes_eq name other)) [
  | inl equal ↦
      is ∙ ap (λ (k : List ℕ). if bytes_eq k other then Some n else old other) same ∙ ap (λ (b : Bool). if b then Some n else old other) equal
      ∙ fresh (old other) n (subst (λ (x : List ℕ). is_some (old x) ≡ false) ((bytes_eq-Decides name other).0 equal) none)
      ∙ sym (ap (λ (b : Bool). or_later (old other) (if b then Some n else None)) equal)
  | inr differs ↦
      is ∙ ap (λ (k : List ℕ). if bytes_eq k other then Some n else old other) same ∙ ap (λ (b : Bool). if b then Some n else old other) differs
      ∙ nothing-later (old other) ∙ sym (ap (λ (b : Bool). or_later (old other) (if b then Some n else None)) differs)
]

-- what is noted, and what is found later
pub step : (same : Bool) (old new later : Option ℕ) (n : ℕ) (all : Option ℕ) → new ≡ or_later old (if same then Some n else None) → or_later old (if same then Some n else later) ≡ all
    → or_later new later ≡ all
step true (Some k) new later n all is e = ap (λ (o : Option ℕ). or_later o later) is ∙ e
step true None new later n all is e = ap (λ (o : Option ℕ). or_later o later) is ∙ e
step false (Some k) new later n all is e = ap (λ (o : Option ℕ). or_later o later) is ∙ e
step false None new later n all is e = ap (λ (o : Option ℕ). or_later o later) is ∙ e

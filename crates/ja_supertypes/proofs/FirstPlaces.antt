-- Names at their first places.
use Rattle.std.proofs.Common.{◌≡◌, true, false, Bool, List, [], ◌∷◌, ◌++◌, ℕ, ◌+◌, ◌<◌, length, take, get_or, inl, inr, refl, sym, ap, ◌∙◌, append-nil, append_assoc}
use Rattle.std.specs.Prelude.{bytes_eq, if◌then◌else◌}
use Rattle.std.specs.List.{list_any}
use Rattle.std.proofs.lemmas.Bool.{cases_Bool, or_left, or_right, or_cases}
use Rattle.std.proofs.lemmas.List.{take_more}
use Rattle.std.proofs.lemmas.List.Folds.{list_any-append}
use Rattle.std.proofs.lemmas.Slice.Eq.{bytes_eq-Decides}
use Rattle.ja_supertypes.specs.LibraryTypes.{with_new, first_places}

-- one name more
abbrev pub and_new : (kept : List (List ℕ)) (name : List ℕ) → List (List ℕ)
and_new kept name = if list_any (bytes_eq name) kept then kept else kept ++ name ∷ []

pub with-append : (kept a b : List (List ℕ)) → with_new kept (a ++ b) ≡ with_new (with_new kept a) b
with-append kept [] b = refl
with-append kept (x ∷ a) b = with-append (and_new kept x) a b

bytes-same : (x : List ℕ) → bytes_eq x x ≡ true
bytes-same x = (bytes_eq-Decides x x).1 refl

-- a name is there after it was added
added-there : (kept : List (List ℕ)) (name : List ℕ) → list_any (bytes_eq name) (and_new kept name) ≡ true
added-there kept name =
    elim (cases_Bool (list_any (bytes_eq name) kept)) [
      | inl there ↦ ap (λ (b : Bool). list_any (bytes_eq name) (if b then kept else kept ++ name ∷ [])) there ∙ there
      | inr absent ↦
          ap (λ (b : Bool). list_any (bytes_eq name) (if b then kept else kept ++ name ∷ [])) absent
          ∙ list_any-append (bytes_eq name) kept (name ∷ [])
          ∙ or_right (list_any (bytes_eq name) kept) (list_any (bytes_eq name) (name ∷ [])) (or_left (bytes_eq name name) false (bytes-same name))
    ]

-- what was there stays
stays-one : (kept : List (List ℕ)) (name other : List ℕ) → list_any (bytes_eq other) kept ≡ true → list_any (bytes_eq other) (and_new kept name) ≡ true
stays-one kept name other there =
    elim (cases_Bool (list_any (bytes_eq name) kept)) [
      | inl is ↦ ap (λ (b : Bool). list_any (bytes_eq other) (if b then kept else kept ++ name ∷ [])) is ∙ there
      | inr absent ↦
          ap (λ (b : Bool). list_any (bytes_eq other) (if b then kept else kept ++ name ∷ [])) absent
          ∙ list_any-append (bytes_eq other) kept (name ∷ [])
          ∙ or_left (list_any (bytes_eq other) kept) (list_any (bytes_eq other) (name ∷ [])) there
    ]

pub stays : (kept a : List (List ℕ)) (other : List ℕ) → list_any (bytes_eq other) kept ≡ true → list_any (bytes_eq other) (with_new kept a) ≡ true
stays kept [] other there = there
stays kept (x ∷ a) other there = stays (and_new kept x) a other (stays-one kept x other there)

-- a name that is there changes nothing
pub nothing-new : (kept : List (List ℕ)) (name : List ℕ) → list_any (bytes_eq name) kept ≡ true → and_new kept name ≡ kept
nothing-new kept name there = ap (λ (b : Bool). if b then kept else kept ++ name ∷ []) there

-- to add the first places of names is to add the names
pub absorb : (kept first b : List (List ℕ)) → with_new kept (with_new first b) ≡ with_new (with_new kept first) b
absorb kept first [] = refl
absorb kept first (x ∷ b) =
    absorb kept (and_new first x) b
    ∙ ap (λ (k : List (List ℕ)). with_new k b)
    (elim (cases_Bool (list_any (bytes_eq x) first)) [
      | inl there ↦
          ap (with_new kept) (nothing-new first x there) ∙ sym (nothing-new (with_new kept first) x (has kept first x there))
      | inr absent ↦
          ap (λ (t : Bool). with_new kept (if t then first else first ++ x ∷ [])) absent ∙ with-append kept first (x ∷ [])
    ])
  where
    has : (kept a : List (List ℕ)) (other : List ℕ) → list_any (bytes_eq other) a ≡ true → list_any (bytes_eq other) (with_new kept a) ≡ true
    has kept [] other there = absurd (cc there)
    has kept (y ∷ a) other there =
        elim (or_cases (bytes_eq other y) (list_any (bytes_eq other) a) there) [
          | inl here ↦
              let same : other ≡ y = (bytes_eq-Decides other y).0 here in
              stays (and_new kept y) a other (ap (λ (n : List ℕ). list_any (bytes_eq n) (and_new kept y)) same ∙ added-there kept y)
          | inr later ↦ has (and_new kept y) a other later
        ]

pub absorb-all : (kept names : List (List ℕ)) → with_new kept (first_places names) ≡ with_new kept names
absorb-all kept names = absorb kept [] names

-- the names of a superclass, at most one, are there again in what comes from the superclass
pub at-front : (first own up : List (List ℕ)) → ((kept : List (List ℕ)) → with_new (with_new (with_new [] first) kept) first ≡ with_new (with_new [] first) kept)
    → first_places ((first ++ first_places own) ++ first_places (first ++ up)) ≡ first_places (first ++ (own ++ up))
at-front first own up again =
    with-append [] (first ++ first_places own) (first_places (first ++ up))
    ∙ absorb-all (with_new [] (first ++ first_places own)) (first ++ up)
    ∙ with-append (with_new [] (first ++ first_places own)) first up
    ∙ ap (λ (k : List (List ℕ)). with_new (with_new k first) up) (with-append [] first (first_places own) ∙ absorb-all (with_new [] first) own)
    ∙ ap (λ (k : List (List ℕ)). with_new k up) (again own)
    ∙ sym (with-append [] first (own ++ up) ∙ with-append (with_new [] first) own up)

pub again-one : (name : List ℕ) (kept : List (List ℕ)) → with_new (with_new (with_new [] (name ∷ [])) kept) (name ∷ []) ≡ with_new (with_new [] (name ∷ [])) kept
again-one name kept = nothing-new (with_new (with_new [] (name ∷ [])) kept) name (stays (name ∷ []) kept name (or_left (bytes_eq name name) false (bytes-same name)))

-- without a superclass
pub alone : (first own : List (List ℕ)) → first_places ((first ++ first_places own) ++ []) ≡ first_places (first ++ own)
alone first own =
    ap first_places (append-nil (first ++ first_places own)) ∙ with-append [] first (first_places own) ∙ absorb-all (with_new [] first) own ∙ sym (with-append [] first own)

-- one name more at the end
pub first-more : (names : List (List ℕ)) (name : List ℕ) → and_new (first_places names) name ≡ first_places (names ++ name ∷ [])
first-more names name = sym (with-append [] names (name ∷ []))

pub added : (old new names : List (List ℕ)) (copy name : List ℕ) → new ≡ and_new old copy → copy ≡ name → old ≡ first_places names → new ≡ first_places (names ++ name ∷ [])
added old new names copy name e same is = e ∙ ap (and_new old) same ∙ ap (λ (k : List (List ℕ)). and_new k name) is ∙ first-more names name

pub more-added : (names xs : List (List ℕ)) (i : ℕ) (x : List ℕ) → i < length xs → x ≡ get_or xs i x → (names ++ take i xs) ++ x ∷ [] ≡ names ++ take (i + 1) xs
more-added names xs i x lt read =
    append_assoc names (take i xs) (x ∷ []) ∙ ap (λ (l : List (List ℕ)). names ++ l) (ap (λ (y : List ℕ). take i xs ++ y ∷ []) read ∙ sym (take_more xs i x lt))

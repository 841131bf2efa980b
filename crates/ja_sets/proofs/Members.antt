-- What is in sets of numbers and of pairs.
use Rattle.std.proofs.Common.{◌≡◌, ℕ, ◌<◌, ◌≤◌, ◌⊎◌, ◌↔◌, Bool, true, false, ◌||◌, List, [], length, get_or, set, replicate, refl, ap, sym, subst, ◌∙◌, inl, inr, arith}
use Rattle.std.proofs.lemmas.List.{get_or-set_same, get_or-set_other, get_or-replicate, get_or_past}
use Rattle.std.proofs.Math.ListN.{length-replicate}
use Rattle.std.proofs.lemmas.Bool.{cases_eq, cases_lt}
use Rattle.ja_sets.specs.Sets.{Has, HasPair, union, union_pairs, with_pair, AreSquare}
use Rattle.ja_sets.proofs.Values.{union-at}
use Rattle.ja_sets.proofs.Squares.{union_pairs-at}

-- an item of a list of copies is the copy
pub get_or-copies : {A : Type 0} (count k : ℕ) (x : A) → get_or (replicate count x) k x ≡ x
get_or-copies count k x = elim (cases_lt k count) [ inl h ↦ get_or-replicate count k x x h | inr past ↦ get_or_past (replicate count x) k x (let e : length (replicate count x) ≡ count = length-replicate count x in omega arith) ]

pub no-member : (n x : ℕ) → Has (replicate n false) x → ⊥
no-member n x has = let e : get_or (replicate n false) x false ≡ false = get_or-copies n x false in absurd (cc (has, e))

pub Has-set : (xs : List Bool) (x y : ℕ) → x < length xs → Has (set xs x true) y ↔ ((y ≡ x) ⊎ Has xs y)
Has-set xs x y h = (
  λ has. elim (cases_eq y x) [ inl e ↦ inl e | inr ne ↦ inr (sym (get_or-set_other xs x y true false ne) ∙ has) ],
  λ either. elim (cases_eq y x) [
    | inl e ↦ ap (λ k. get_or (set xs x true) k false) e ∙ get_or-set_same xs x true false h
    | inr ne ↦ get_or-set_other xs x y true false ne ∙ elim either [ inl e ↦ absurd (ne e) | inr has ↦ has ]
  ],
)

either-true : (a b : Bool) → (a || b) ≡ true → (a ≡ true) ⊎ (b ≡ true)
either-true true b h = inl refl
either-true false b h = inr h

true-either : (a b : Bool) → (a ≡ true) ⊎ (b ≡ true) → (a || b) ≡ true
true-either true b h = refl
true-either false b (inl h) = absurd (cc h)
true-either false b (inr h) = h

pub Has-union_iff : (xs ys : List Bool) (x : ℕ) → length xs ≡ length ys → Has (union xs ys) x ↔ (Has xs x ⊎ Has ys x)
Has-union_iff xs ys x h = (
  λ has. either-true (get_or xs x false) (get_or ys x false) (sym (union-at xs ys x h) ∙ has),
  λ either. union-at xs ys x h ∙ true-either (get_or xs x false) (get_or ys x false) either,
)

pub no-pair : (n a b : ℕ) → HasPair (replicate n (replicate n false)) a b → ⊥
no-pair n a b has = elim (cases_lt a n) [
  | inl h ↦ no-member n b (subst (λ (row : List Bool). Has row b) (get_or-replicate n a (replicate n false) [] h) has)
  | inr past ↦
      let none : get_or (replicate n (replicate n false)) a [] ≡ [] = get_or_past (replicate n (replicate n false)) a [] (let e : length (replicate n (replicate n false)) ≡ n = length-replicate n (replicate n false) in omega arith) in
      let e : Has [] b = subst (λ (row : List Bool). Has row b) none has in
      absurd (cc e)
]

pub HasPair-with_pair : (xs : List (List Bool)) (a b c d : ℕ) → AreSquare xs → a < length xs → b < length xs → HasPair (with_pair xs a b) c d ↔ (((c ≡ a) × (d ≡ b)) ⊎ HasPair xs c d)
HasPair-with_pair xs a b c d square ha hb =
    let row : List Bool = get_or xs a [] in
    let same : get_or (with_pair xs a b) a [] ≡ set (get_or xs a []) b true = get_or-set_same xs a (set (get_or xs a []) b true) [] ha in
    let inside : b < length (get_or xs a []) = subst (λ (n : ℕ). b < n) (sym (square a ha)) hb in
    let both : Has (set (get_or xs a []) b true) d ↔ ((d ≡ b) ⊎ Has (get_or xs a []) d) = Has-set (get_or xs a []) b d inside in
    elim (cases_eq c a) [
      | inl e ↦ (
        λ has. elim (both.0 (subst (λ (r : List Bool). Has r d) (ap (λ k. get_or (with_pair xs a b) k []) e ∙ same) has)) [
          | inl f ↦ inl (e, f)
          | inr old ↦ inr (subst (λ (k : ℕ). Has (get_or xs k []) d) (sym e) old)
        ],
        λ either. subst (λ (r : List Bool). Has r d) (sym (ap (λ k. get_or (with_pair xs a b) k []) e ∙ same))
            (both.1 (elim either [ inl new ↦ inl new.1 | inr old ↦ inr (subst (λ (k : ℕ). Has (get_or xs k []) d) e old) ])),
      )
      | inr ne ↦
          let other : get_or (with_pair xs a b) c [] ≡ get_or xs c [] = get_or-set_other xs a c (set (get_or xs a []) b true) [] ne in (
            λ has. inr (subst (λ (r : List Bool). Has r d) other has),
            λ either. elim either [ inl new ↦ absurd (ne new.0) | inr old ↦ subst (λ (r : List Bool). Has r d) (sym other) old ],
          )
    ]

pub HasPair-union_pairs : (xs ys : List (List Bool)) (a b : ℕ) → AreSquare xs → AreSquare ys → length xs ≡ length ys → HasPair (union_pairs xs ys) a b ↔ (HasPair xs a b ⊎ HasPair ys a b)
HasPair-union_pairs xs ys a b sx sy h =
    let rows : length (get_or xs a []) ≡ length (get_or ys a []) = elim (cases_lt a (length xs)) [
      | inl there ↦ sx a there ∙ h ∙ sym (sy a (subst (λ (n : ℕ). a < n) h there))
      | inr past ↦ ap length (get_or_past xs a [] past) ∙ sym (ap length (get_or_past ys a [] (subst (λ (n : ℕ). n ≤ a) h past)))
    ] in
    let both : Has (union (get_or xs a []) (get_or ys a [])) b ↔ (Has (get_or xs a []) b ⊎ Has (get_or ys a []) b) = Has-union_iff (get_or xs a []) (get_or ys a []) b rows in
    let row : get_or (union_pairs xs ys) a [] ≡ union (get_or xs a []) (get_or ys a []) = union_pairs-at xs ys a h in
    (λ has. both.0 (subst (λ (r : List Bool). Has r b) row has), λ either. subst (λ (r : List Bool). Has r b) (sym row) (both.1 either))

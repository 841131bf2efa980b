-- A number for each class that falls on the way up, from the heads alone.
use Rattle.std.proofs.Common.{◌≡◌, ℕ, zero, suc, ◌<◌, ◌≤◌, ◌⊎◌, inl, inr, Bool, true, false, List, [], ◌∷◌, length, map, get_or, replicate, refl, sym, ◌∙◌, subst, arith}
use Rattle.std.specs.Prelude.{Option, Some, None, Contains, slice_set}
use Rattle.std.proofs.lemmas.List.{length-map, length-set, length-replicate, get_or-map}
use Rattle.ja_sets.specs.Sets.{Has}
use Rattle.ja_sets.proofs.Members.{Has-set, no-member}
use Rattle.ja_ir.specs.declared.head.ClassHead.{ClassHead}
use Rattle.ja_supertypes.specs.Faults.{IsCyclic, IsNowhere}
use Rattle.ja_supertypes.specs.InnerIndex.{supertype_places}
use Rattle.ja_supertypes.specs.InnerRows.{AreSets, IsSetOf, ShowsAll, stepped}
use Rattle.ja_supertypes.specs.Supertypes.{superclass_of, IsDirect}
use Rattle.ja_supertypes.proofs.Falls.{rank, falls, superclass-direct}
use Rattle.ja_supertypes.proofs.Places.{supertypes-inside, shows-direct}
use Rattle.ja_supertypes.proofs.Ways.{Shows, shows-none, shows-step, shows-all}
use Rattle.std.specs.Prelude.{All}
use Rattle.std.specs.Prelude.{◌↔◌}

-- the set of some numbers
abbrev set_list : (len : ℕ) → List ℕ → List Bool
set_list len [] = replicate len false
set_list len (d ∷ ds) = slice_set (set_list len ds) d true

cons-cases : (x : ℕ) (xs : List ℕ) (y : ℕ) → Contains (x ∷ xs) y → (y ≡ x) ⊎ Contains xs y
cons-cases x xs y (zero, lt, e) = inl (sym e)
cons-cases x xs y (suc k, lt, e) = inr (k, omega arith, e)

cons-from : (x : ℕ) (xs : List ℕ) (y : ℕ) → (y ≡ x) ⊎ Contains xs y → Contains (x ∷ xs) y
cons-from x xs y (inl e) = (0, omega arith, sym e)
cons-from x xs y (inr (k, lt, e)) = (suc k, omega arith, e)

set-list-is : (len : ℕ) (ds : List ℕ) → ((d : ℕ) → Contains ds d → d < len) → IsSetOf ds len (set_list len ds)
set-list-is len [] inside = record {
  width = length-replicate len false;
  exact = λ x. (λ has. absurd (no-member len x has), λ in'. absurd (omega (arith, in'.1)));
}
set-list-is len (d ∷ ds) inside =
    let rest : IsSetOf ds len (set_list len ds) = set-list-is len ds (λ x in'. inside x (cons-from d ds x (inr in'))) in
    record {
      width = length-set (set_list len ds) d true ∙ rest.width;
      exact = λ x.
          let both : Has (slice_set (set_list len ds) d true) x ↔ ((x ≡ d) ⊎ Has (set_list len ds) x) = Has-set (set_list len ds) d x (omega (arith, rest.width, inside d (cons-from d ds d (inl refl)))) in (
            λ has. cons-from d ds x (elim (both.0 has) [ inl same ↦ inl same | inr other ↦ inr ((rest.exact x).0 other) ]),
            λ in'. both.1 (elim (cons-cases d ds x in') [ inl same ↦ inl same | inr other ↦ inr ((rest.exact x).1 other) ]),
          );
    }

all-contained : (len : ℕ) (ds : List ℕ) → All (λ d. d < len) ds → (d : ℕ) → Contains ds d → d < len
all-contained len ds all d in' = subst (λ (x : ℕ). x < len) in'.2 (all in'.0 d in'.1)

-- the sets of the direct supertypes
abbrev first_rows : List ClassHead → List (List Bool)
first_rows heads = map (set_list (length heads)) (supertype_places heads)

first-sets : (heads : List ClassHead) → AreSets (supertype_places heads) (length heads) (first_rows heads)
first-sets heads = record {
  size = length-map (supertype_places heads) (set_list (length heads));
  each = λ i lt. subst (λ (row : List Bool). IsSetOf (get_or (supertype_places heads) i []) (length heads) row) (sym (get_or-map (set_list (length heads)) (supertype_places heads) i [] [] lt))
      (set-list-is (length heads) (get_or (supertype_places heads) i []) (all-contained (length heads) (get_or (supertype_places heads) i []) (supertypes-inside heads i [] lt)));
}

-- the rows after so many middle classes
abbrev closed : List ClassHead → ℕ → List (List Bool)
closed heads zero = first_rows heads
closed heads (suc k) = map (stepped k (get_or (closed heads k) k [])) (closed heads k)

closed-shows : (heads : List ClassHead) (k : ℕ) → k ≤ length heads → Shows heads k (closed heads k)
closed-shows heads zero le = shows-none heads (first_rows heads) (shows-direct heads (first_rows heads) (first-sets heads))
closed-shows heads (suc k) le =
    shows-step heads k (closed heads k) (closed heads (suc k)) (omega arith) (closed-shows heads k (omega arith))
    (length-map (closed heads k) (stepped k (get_or (closed heads k) k [])))
    (λ i lt. get_or-map (stepped k (get_or (closed heads k) k [])) (closed heads k) i [] [] lt)

-- some rows that show the proper supertypes
pub rows-of : (heads : List ClassHead) → (rows : List (List Bool)) × ShowsAll heads rows
rows-of heads = (closed heads (length heads), shows-all heads (closed heads (length heads)) (closed-shows heads (length heads) (omega arith)))

-- the number of proper supertypes of a class
abbrev pub rank_of : List ClassHead → (c : ℕ) → ℕ
rank_of heads c = rank (rows-of heads).0 c

pub rank-falls : (heads : List ClassHead) → IsNowhere (IsCyclic heads) → (c d : ℕ) → IsDirect heads c d → rank_of heads d < rank_of heads c
rank-falls heads acyclic c d e = falls heads (rows-of heads).0 (rows-of heads).1 acyclic c d e

-- the same of a place of the way up through superclasses, counting itself
abbrev pub height_of : List ClassHead → Option ℕ → ℕ
height_of heads None = 0
height_of heads (Some c) = suc (rank_of heads c)

pub height-falls : (heads : List ClassHead) → IsNowhere (IsCyclic heads) → (s : ℕ) (o : Option ℕ) → o ≡ superclass_of heads s → height_of heads o < suc (rank_of heads s)
height-falls heads acyclic s None e = omega arith
height-falls heads acyclic s (Some t) e = omega (arith, rank-falls heads acyclic s t (superclass-direct heads s t (sym e)))

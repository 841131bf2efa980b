-- Files in the order of their names.
use Rattle.std.proofs.Common.{◌≡◌, ℕ, ◌<◌, List, [], ◌∷◌, length, map, get_or, refl, ap, sym, ◌∙◌, arith}
use Rattle.std.specs.Prelude.{IsPermutation}
use Rattle.std.specs.List.{swap}
use Rattle.std.proofs.Math.ListN.{set, get_or-map, length-map}
use Rattle.std.proofs.Math.Seq.{map-set}
use Rattle.std.proofs.lemmas.List.Sorted.{IsPermutation-keeps, IsPermutation-refl, IsPermutation-swap, IsPermutation-trans}
use Rattle.ja_base.specs.declared.file.File.{File}
use Rattle.ja_io.specs.Contents.{names_of}

-- two items are exchanged before or after a function
map-swap : {A B : Type 0} (f : A → B) (xs : List A) (i j : ℕ) → map f (swap xs i j) ≡ swap (map f xs) i j
map-swap f [] i j = refl
map-swap {A} f (d ∷ ys) i j =
    let l : List A = d ∷ ys in
    map-set f (set l i (get_or l j d)) j (get_or l i d)
    ∙ (λ t. set ((map-set f l i (get_or l j d) ∙ ap (set (map f l) i) (sym (get_or-map f l j d))) t) j (sym (get_or-map f l i d) t))

-- these files in an order in which these are their names
pub record IsListed (files : List File) (names : List (List ℕ)) : Type 0 where
  pub ordered : List File
  pub each : IsPermutation files ordered
  pub named : names_of ordered ≡ names

-- names in another order are those of the files in another order
pub listed : (files : List File) (names : List (List ℕ)) → IsPermutation (names_of files) names → IsListed files names
listed files names moved =
    IsPermutation-keeps (names_of files) (IsListed files) (record { ordered = files; each = IsPermutation-refl files; named = refl }) step names moved
  where
    step : (l : List (List ℕ)) (i j : ℕ) → i < length l → j < length l → IsListed files l → IsListed files (swap l i j)
    step l i j below other held =
        let size : length l ≡ length held.ordered = ap length (sym held.named) ∙ length-map held.ordered (λ (file : File). file.name) in
        record {
          ordered = swap held.ordered i j;
          each = IsPermutation-trans files held.ordered (swap held.ordered i j) held.each
              (IsPermutation-swap held.ordered (swap held.ordered i j) i j (omega arith) (omega arith) refl);
          named = map-swap (λ (file : File). file.name) held.ordered i j ∙ ap (λ (x : List (List ℕ)). swap x i j) held.named;
        }

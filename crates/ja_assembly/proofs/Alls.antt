-- What holds of each element of lists that stand one behind the other, or beside another.
use Rattle.std.proofs.Common.{List, [], ◌∷◌, ◌++◌}
use Rattle.std.specs.List.{AllByRecursion, flat_map}
use Rattle.ja_assembly.specs.Right.{IsIn, AreIn}
use Rattle.ja_assembly.proofs.Different.{all_from}

module _ {A : Type 0} (P : A → Type 0) where
  pub all_front : (xs ys : List A) → AllByRecursion P (xs ++ ys) → AllByRecursion P xs
  all_front [] ys h = tt
  all_front (x ∷ xs) ys h = (h.0, all_front xs ys h.1)

  pub all_back : (xs ys : List A) → AllByRecursion P (xs ++ ys) → AllByRecursion P ys
  all_back [] ys h = h
  all_back (x ∷ xs) ys h = all_back xs ys h.1

  pub all_parts : {B : Type 0} (f : B → List A) (xs : List B) → AllByRecursion P (flat_map f xs) → AllByRecursion (λ x. AllByRecursion P (f x)) xs
  all_parts f [] h = tt
  all_parts f (x ∷ xs) h = (all_front (f x) (flat_map f xs) h, all_parts f xs (all_back (f x) (flat_map f xs) h))

  pub all_both : (Q : A → Type 0) (xs : List A) → AllByRecursion P xs → AllByRecursion Q xs → AllByRecursion (λ x. P x × Q x) xs
  all_both Q [] h k = tt
  all_both Q (x ∷ xs) h k = ((h.0, k.0), all_both Q xs h.1 k.1)

-- each element of a list is one of it
pub all_in : {A : Type 0} (xs : List A) → AreIn xs xs
all_in xs = all_from (λ x. IsIn x xs) xs (λ x at. at)

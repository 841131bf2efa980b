-- Class initialisers, one method and one class after another; and that they are methods of the program.
use Rattle.std.proofs.Common.{◌≡◌, ℕ, zero, suc, ◌+◌, ◌<◌, ◌≤◌, ◌^◌, Bool, true, false, List, [], ◌∷◌, ◌++◌, length, take, get_or, refl, sym, ap, ◌∙◌, subst, append_assoc, append-nil, arith}
use Rattle.std.specs.Prelude.{Some, All, slice_get, sum_by, if◌then◌else◌}
use Rattle.std.proofs.lemmas.Option.{get_or_from_slice_get, slice_get_within}
use Rattle.std.proofs.lemmas.List.Sums.{sum_by_more_le}
use Rattle.std.proofs.lemmas.List.{length-take-le, map_more, take_more}
use Rattle.std.proofs.lemmas.List.Elements.{All-append, All-cons, All-nil}
use Rattle.ja_base.specs.declared.id.ClassId.{ClassId}
use Rattle.ja_base.specs.declared.id.MethodId.{MethodId}
use Rattle.ja_ir.specs.declared.head.ClassHead.{ClassHead}
use Rattle.ja_ir.specs.declared.head.HeadMethod.{HeadMethod}
use Rattle.ja_hier.specs.declared.starts.Member.TheVariants.{Method}
use Rattle.ja_hier.specs.LookUps.{methods_of}
use Rattle.ja_hier.specs.Members.{count_of}
use Rattle.ja_heads.specs.Initializers.{initializers_from, initializers_in, initializers_of, is_initializer}
use Rattle.ja_heads.specs.Signatures.{numbers_of}

-- ---- methods

from_append : (first : ℕ) (xs ys : List HeadMethod) → initializers_from first (xs ++ ys) ≡ initializers_from first xs ++ initializers_from (first + length xs) ys
from_append first [] ys = let none : first ≡ first + 0 = omega arith in ap (λ (n : ℕ). initializers_from n ys) none
from_append first (x ∷ xs) ys =
    let one : suc first + length xs ≡ first + length (x ∷ xs) = omega arith in
    let front : List MethodId = if is_initializer x then (record { 0 = first }) ∷ [] else [] in
    ap (λ (l : List MethodId). front ++ l) (from_append (suc first) xs ys ∙ ap (λ (n : ℕ). initializers_from (suc first) xs ++ initializers_from n ys) one)
    ∙ sym (append_assoc front (initializers_from (suc first) xs) (initializers_from (first + length (x ∷ xs)) ys))

-- one more method
pub from_more : (first : ℕ) (methods : List HeadMethod) (k : ℕ) (method : HeadMethod) → k < length methods → method ≡ get_or methods k method
    → initializers_from first (take (k + 1) methods) ≡ initializers_from first (take k methods) ++ initializers_from (first + k) (method ∷ [])
from_more first methods k method lt read =
    let size : length (take k methods) ≡ k = length-take-le k methods (omega arith) in
    ap (initializers_from first) (take_more methods k method lt)
    ∙ from_append first (take k methods) (get_or methods k method ∷ [])
    ∙ ap (λ (n : ℕ). initializers_from first (take k methods) ++ initializers_from (first + n) (get_or methods k method ∷ [])) size
    ∙ ap (λ (m : HeadMethod). initializers_from first (take k methods) ++ initializers_from (first + k) (m ∷ [])) (sym read)

-- ---- classes

-- the methods of a class fit among all
pub first_fits : (heads : List ClassHead) (c : ℕ) (head : ClassHead) (first n : ℕ) → slice_get heads c ≡ Some head → first ≡ sum_by (count_of Method) (take c heads) → n ≡ length head.methods
    → sum_by (count_of Method) heads ≤ 2 ^ 26 → first + n ≤ 2 ^ 26
first_fits heads c head first n at is size most =
    let read : count_of Method (get_or heads c head) ≡ length head.methods = ap (count_of Method) (get_or_from_slice_get heads c head head at) in
    omega (arith, sum_by_more_le (count_of Method) heads c head (slice_get_within heads c head at), read, is, size, most)

-- the class initialisers that a class declares
pub of_class : (heads : List ClassHead) (c : ℕ) (head : ClassHead) (first : ℕ) (methods : List HeadMethod) → slice_get heads c ≡ Some head → first ≡ sum_by (count_of Method) (take c heads) → methods ≡ head.methods
    → initializers_from first methods ≡ initializers_in heads c
of_class heads c head first methods at is same =
    ap (λ (n : ℕ). initializers_from n methods) is
    ∙ ap (initializers_from (sum_by (count_of Method) (take c heads))) (same ∙ sym (ap methods_of at))

of_append : (heads : List ClassHead) (xs ys : List ℕ) → initializers_of heads (xs ++ ys) ≡ initializers_of heads xs ++ initializers_of heads ys
of_append heads [] ys = refl
of_append heads (c ∷ xs) ys =
    ap (λ (l : List MethodId). initializers_in heads c ++ l) (of_append heads xs ys) ∙ sym (append_assoc (initializers_in heads c) (initializers_of heads xs) (initializers_of heads ys))

-- one more class
pub of_more : (heads : List ClassHead) (classes : List ClassId) (k : ℕ) (class : ClassId) → k < length classes → class ≡ get_or classes k class
    → initializers_of heads (numbers_of (take (k + 1) classes)) ≡ initializers_of heads (numbers_of (take k classes)) ++ initializers_in heads class.0
of_more heads classes k class lt read =
    ap (initializers_of heads) (map_more (λ (id : ClassId). id.0) classes k class lt)
    ∙ of_append heads (numbers_of (take k classes)) ((get_or classes k class).0 ∷ [])
    ∙ ap (λ (l : List MethodId). initializers_of heads (numbers_of (take k classes)) ++ l) (append-nil (initializers_in heads (get_or classes k class).0))
    ∙ ap (λ (id : ClassId). initializers_of heads (numbers_of (take k classes)) ++ initializers_in heads id.0) (sym read)

-- ---- what holds of each

pub from_each : (P : MethodId → Type 0) (first : ℕ) (methods : List HeadMethod)
    → ((k : ℕ) (method : HeadMethod) → slice_get methods k ≡ Some method → is_initializer method ≡ true → P (record { 0 = first + k })) → All P (initializers_from first methods)
from_each P first [] each = All-nil P
from_each P first (x ∷ methods) each =
    All-append P (if is_initializer x then (record { 0 = first }) ∷ [] else []) (initializers_from (suc first) methods) (by (is_initializer x) refl)
    (from_each P (suc first) methods (λ k method at is.
    let next : first + suc k ≡ suc first + k = omega arith in
    subst (λ (n : ℕ). P (record { 0 = n })) next (each (suc k) method at is)))
  where
    by : (b : Bool) → is_initializer x ≡ b → All P (if b then (record { 0 = first }) ∷ [] else [])
    by true e =
        let here : first + zero ≡ first = omega arith in
        All-cons P (record { 0 = first }) [] (subst (λ (n : ℕ). P (record { 0 = n })) here (each zero x refl e)) (All-nil P)
    by false e = All-nil P

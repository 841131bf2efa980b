-- The names of made files ascend.
use Rattle.std.proofs.Common.{◌≡◌, ℕ, zero, suc, ◌+◌, ◌*◌, ◌/◌, ◌%◌, ◌<◌, ◌≤◌, inl, inr, List, [], ◌∷◌, ◌++◌, map, codes, refl, sym, subst, arith, lt-ltb, le-ltb, eq-eqb, Less, nat_cmp}
use Rattle.std.specs.List.{AllByRecursion}
use Rattle.std.specs.List.Sorted.{IsStrictlySortedBy}
use Rattle.std.specs.Cmp.Lexicographic.{slice_cmp}
use Rattle.std.proofs.lemmas.Bool.{cases_order}
use Rattle.std.proofs.lemmas.List.{map-append}
use Rattle.ja_base.specs.declared.file.File.{File}
use Rattle.ja_generator.specs.Drawn.{number_of, file_name}
use Rattle.ja_generator.specs.Made.{file_by, made_files}

-- ---- the order of two lists of numbers

abbrev IsBefore : List ℕ → List ℕ → Type 0
IsBefore xs ys = slice_cmp nat_cmp xs ys ≡ Less

less : (x y : ℕ) (xs ys : List ℕ) → x < y → IsBefore (x ∷ xs) (y ∷ ys)
less x y xs ys h = rw (lt-ltb x y h) refl

same : (x y : ℕ) (xs ys : List ℕ) → x ≡ y → IsBefore xs ys → IsBefore (x ∷ xs) (y ∷ ys)
same x y xs ys e h = rw (le-ltb x y (omega arith), eq-eqb x y e) h

-- the first numbers that differ decide
next : (x y : ℕ) (xs ys : List ℕ) → x ≤ y → (x ≡ y → IsBefore xs ys) → IsBefore (x ∷ xs) (y ∷ ys)
next x y xs ys le rest = elim (cases_order x y) [
  | inl e ↦ same x y xs ys e (rest e)
  | inr (inl lt) ↦ less x y xs ys lt
  | inr (inr lt) ↦ absurd (omega arith)
]

-- ---- four digits

digits : (n : ℕ) → n < 10000 → n ≡ 1000 * (n / 1000 % 10) + 100 * (n / 100 % 10) + 10 * (n / 10 % 10) + n % 10
digits n h = omega arith

pub names-before : (i j : ℕ) → i < j → j < 10000 → IsBefore (file_name i) (file_name j)
names-before i j lt few =
    by (i / 1000 % 10) (i / 100 % 10) (i / 10 % 10) (i % 10) (j / 1000 % 10) (j / 100 % 10) (j / 10 % 10) (j % 10)
    (omega arith) (omega arith) (omega arith) (omega arith) (omega arith) (omega arith) (omega (arith, lt, digits i (omega arith), digits j few))
  where
    by : (a b c d v w x y : ℕ) → b < 10 → c < 10 → d < 10 → w < 10 → x < 10 → y < 10 → 1000 * a + 100 * b + 10 * c + d < 1000 * v + 100 * w + 10 * x + y
        → IsBefore (71 ∷ (48 + a) ∷ (48 + b) ∷ (48 + c) ∷ (48 + d) ∷ codes ".class") (71 ∷ (48 + v) ∷ (48 + w) ∷ (48 + x) ∷ (48 + y) ∷ codes ".class")
    by a b c d v w x y hb hc hd hw hx hy h =
        next (48 + a) (48 + v) ((48 + b) ∷ (48 + c) ∷ (48 + d) ∷ codes ".class") ((48 + w) ∷ (48 + x) ∷ (48 + y) ∷ codes ".class") (omega arith) (λ e.
        next (48 + b) (48 + w) ((48 + c) ∷ (48 + d) ∷ codes ".class") ((48 + x) ∷ (48 + y) ∷ codes ".class") (omega arith) (λ f.
        next (48 + c) (48 + x) ((48 + d) ∷ codes ".class") ((48 + y) ∷ codes ".class") (omega arith) (λ g.
        less (48 + d) (48 + y) (codes ".class") (codes ".class") (omega arith))))

-- ---- the files

all_append : (P : List ℕ → Type 0) (xs ys : List (List ℕ)) → AllByRecursion P xs → AllByRecursion P ys → AllByRecursion P (xs ++ ys)
all_append P [] ys all more = more
all_append P (x ∷ xs) ys all more = (all.0, all_append P xs ys all.1 more)

one_more : (xs : List (List ℕ)) (x : List ℕ) → AllByRecursion (λ y. IsBefore y x) xs → IsStrictlySortedBy (slice_cmp nat_cmp) xs → IsStrictlySortedBy (slice_cmp nat_cmp) (xs ++ x ∷ [])
unfolding IsStrictlySortedBy
one_more [] x all sorted = (tt, tt)
one_more (y ∷ xs) x all sorted = (all_append (IsBefore y) xs (x ∷ []) sorted.0 (all.0, tt), one_more xs x all.1 sorted.1)

-- the names of the first so many files
names : (number n : ℕ) → List (List ℕ)
names number n = map (λ (file : File). file.name) (made_files number n)

names-suc : (number n : ℕ) → names number (suc n) ≡ names number n ++ file_name n ∷ []
unfolding names
names-suc number n = map-append (λ (file : File). file.name) (made_files number n) (file_by (number_of number n) n ∷ [])

all_before : (number m n : ℕ) → m ≤ n → n < 10000 → AllByRecursion (λ y. IsBefore y (file_name n)) (names number m)
unfolding names
all_before number zero n le few = tt
all_before number (suc m) n le few =
    subst (AllByRecursion (λ y. IsBefore y (file_name n))) (sym (names-suc number m))
    (all_append (λ y. IsBefore y (file_name n)) (names number m) (file_name m ∷ []) (all_before number m n (omega arith) few) (names-before m n le few, tt))

pub names-ascend : (number n : ℕ) → n ≤ 10000 → IsStrictlySortedBy (slice_cmp nat_cmp) (map (λ (file : File). file.name) (made_files number n))
unfolding IsStrictlySortedBy names
names-ascend number zero few = tt
names-ascend number (suc n) few =
    subst (IsStrictlySortedBy (slice_cmp nat_cmp)) (sym (names-suc number n))
    (one_more (names number n) (file_name n) (all_before number n n (omega arith) (omega arith)) (names-ascend number n (omega arith)))

-- The rows of a square.
use Rattle.std.proofs.Common.{◌≡◌, ℕ, zero, suc, ◌+◌, ◌*◌, ◌/◌, ◌%◌, ◌<◌, ◌↔◌, Bool, true, false, ◌||◌, IsTrue, List, [], ◌∷◌, length, get_or, set, drop, replicate, refl, ap, sym, subst, ◌∙◌, inl, inr, arith}
use Rattle.std.proofs.lemmas.Nat.{div_below, div-add-mod', same_from_place, mul-add-lt}
use Rattle.std.proofs.lemmas.List.{ext_get_or, get_or-set_same, get_or-set_other, get_or-replicate, get_or_past, get_or-take, get_or-drop, length-take-le, length-drop}
use Rattle.std.proofs.Math.ListN.{length-set, length-replicate}
use Rattle.std.proofs.lemmas.Bool.{cases_eq, cases_lt}
use Rattle.ja_sets.specs.Sets.{Has, Lacks, union, Adds, HasPair, LacksPair, AddsPair, with_pair, union_pairs, AreSquare}
use Rattle.ja_sets.specs.InnerRows.{cut, rows, IsSquare}
use Rattle.ja_sets.proofs.Values.{length-union, union-at}

length-cut : (width count : ℕ) (bits : List Bool) → length (cut width count bits) ≡ count
length-cut width zero bits = refl
length-cut width (suc count) bits = ap suc (length-cut width count (drop width bits))

cut-at : (width count : ℕ) (bits : List Bool) (a b : ℕ) → a < count → b < width → get_or (get_or (cut width count bits) a []) b false ≡ get_or bits (a * width + b) false
cut-at width zero bits a b ha hb = absurd (omega arith)
cut-at width (suc count) bits zero b ha hb = get_or-take width bits b false hb ∙ ap (λ i. get_or bits i false) (omega arith)
cut-at width (suc count) bits (suc a) b ha hb =
    cut-at width count (drop width bits) a b (omega arith) hb
    ∙ get_or-drop width bits (a * width + b) false
    ∙ ap (λ i. get_or bits i false) (omega arith)

length-cut_row : (width count : ℕ) (bits : List Bool) (a : ℕ) → a < count → length bits ≡ count * width → length (get_or (cut width count bits) a []) ≡ width
length-cut_row width zero bits a ha h = absurd (omega arith)
length-cut_row width (suc count) bits zero ha h = length-take-le width bits (omega arith)
length-cut_row width (suc count) bits (suc a) ha h =
    length-cut_row width count (drop width bits) a (omega arith) (length-drop width bits ∙ omega arith)

pub length-rows : (n : ℕ) (bits : List Bool) → length (rows n bits) ≡ n
unfolding rows
length-rows n bits = length-cut n n bits

pub rows-at : (n : ℕ) (bits : List Bool) (a b : ℕ) → a < n → b < n → get_or (get_or (rows n bits) a []) b false ≡ get_or bits (a * n + b) false
unfolding rows
rows-at n bits a b ha hb = cut-at n n bits a b ha hb

pub length-row : (n : ℕ) (bits : List Bool) (a : ℕ) → a < n → length bits ≡ n * n → length (get_or (rows n bits) a []) ≡ n
unfolding rows
length-row n bits a ha h = length-cut_row n n bits a ha h

-- rows that agree with the bits are those of the square
pub rows-from : (n : ℕ) (bits : List Bool) (xs : List (List Bool)) → length bits ≡ n * n → length xs ≡ n → ((a : ℕ) → a < n → length (get_or xs a []) ≡ n) → ((a b : ℕ) → a < n → b < n → get_or (get_or xs a []) b false ≡ get_or bits (a * n + b) false) → rows n bits ≡ xs
rows-from n bits xs filled size widths each =
    ext_get_or [] (rows n bits) xs (length-rows n bits ∙ sym size)
    (λ a room. let ha : a < n = omega (arith, length-rows n bits, room) in
    ext_get_or false (get_or (rows n bits) a []) (get_or xs a []) (length-row n bits a ha filled ∙ sym (widths a ha))
    (λ b below. let hb : b < n = omega (arith, length-row n bits a ha filled, below) in rows-at n bits a b ha hb ∙ sym (each a b ha hb)))

pub rows-zeros : (n : ℕ) → rows n (replicate (n * n) false) ≡ replicate n (replicate n false)
rows-zeros n =
    let row : (a : ℕ) → a < n → get_or (replicate n (replicate n false)) a [] ≡ replicate n false = λ a ha. get_or-replicate n a (replicate n false) [] ha in
    rows-from n (replicate (n * n) false) (replicate n (replicate n false)) (length-replicate (n * n) false) (length-replicate n (replicate n false))
    (λ a ha. ap length (row a ha) ∙ length-replicate n false)
    (λ a b ha hb. ap (λ (xs : List Bool). get_or xs b false) (row a ha) ∙ get_or-replicate n b false false hb
    ∙ sym (get_or-replicate (n * n) (a * n + b) false false (mul-add-lt a n b n ha hb)))

pub rows-set : (n : ℕ) (bits : List Bool) (a b : ℕ) → length bits ≡ n * n → a < n → b < n → rows n (set bits (a * n + b) true) ≡ with_pair (rows n bits) a b
rows-set n bits a b filled ha hb =
    let old : List Bool = get_or (rows n bits) a [] in
    let there : a < length (rows n bits) = omega (arith, length-rows n bits) in
    rows-from n (set bits (a * n + b) true) (with_pair (rows n bits) a b)
    (length-set bits (a * n + b) true ∙ filled)
    (length-set (rows n bits) a (set old b true) ∙ length-rows n bits)
    (λ i hi. elim (cases_eq i a) [
      | inl e ↦ ap (λ k. length (get_or (set (rows n bits) a (set old b true)) k [])) e ∙ ap length (get_or-set_same (rows n bits) a (set old b true) [] there) ∙ length-set old b true ∙ length-row n bits a ha filled
      | inr ne ↦ ap length (get_or-set_other (rows n bits) a i (set old b true) [] ne) ∙ length-row n bits i hi filled
    ])
    (λ i j hi hj. elim (cases_eq i a) [
      | inl e ↦
          ap (λ k. get_or (get_or (set (rows n bits) a (set old b true)) k []) j false) e
          ∙ ap (λ (xs : List Bool). get_or xs j false) (get_or-set_same (rows n bits) a (set old b true) [] there)
          ∙ elim (cases_eq j b) as (λ _. get_or (set old b true) j false ≡ get_or (set bits (a * n + b) true) (i * n + j) false) [
            | inl f ↦ ap (λ k. get_or (set old b true) k false) f ∙ get_or-set_same old b true false (omega (arith, length-row n bits a ha filled))
                ∙ sym (get_or-set_same bits (a * n + b) true false (rw filled (mul-add-lt a n b n ha hb)))
                ∙ ap (λ k. get_or (set bits (a * n + b) true) k false) (sym (ap (λ k. k * n + j) e ∙ ap (λ k. a * n + k) f))
            | inr g ↦ get_or-set_other old b j true false g ∙ rows-at n bits a j ha hj
                ∙ sym (get_or-set_other bits (a * n + b) (a * n + j) true false (λ same. g (same_from_place a j a b n hj hb same).1))
                ∙ ap (λ k. get_or (set bits (a * n + b) true) k false) (ap (λ k. k * n + j) (sym e))
          ]
      | inr ne ↦
          ap (λ (xs : List Bool). get_or xs j false) (get_or-set_other (rows n bits) a i (set old b true) [] ne)
          ∙ rows-at n bits i j hi hj
          ∙ sym (get_or-set_other bits (a * n + b) (i * n + j) true false (λ same. ne (same_from_place i j a b n hj hb same).0))
    ])

length-union_pairs : (xs ys : List (List Bool)) → length xs ≡ length ys → length (union_pairs xs ys) ≡ length xs
length-union_pairs [] ys h = refl
length-union_pairs (x ∷ xs) [] h = refl
length-union_pairs (x ∷ xs) (y ∷ ys) h = ap suc (length-union_pairs xs ys (omega (arith, h)))

pub union_pairs-at : (xs ys : List (List Bool)) (a : ℕ) → length xs ≡ length ys → get_or (union_pairs xs ys) a [] ≡ union (get_or xs a []) (get_or ys a [])
union_pairs-at [] [] a h = refl
union_pairs-at [] (y ∷ ys) a h = absurd (omega (arith, h))
union_pairs-at (x ∷ xs) [] a h = absurd (omega (arith, h))
union_pairs-at (x ∷ xs) (y ∷ ys) zero h = refl
union_pairs-at (x ∷ xs) (y ∷ ys) (suc a) h = union_pairs-at xs ys a (omega (arith, h))

pub rows-union : (n : ℕ) (xs ys : List Bool) → length xs ≡ n * n → length ys ≡ n * n → rows n (union xs ys) ≡ union_pairs (rows n xs) (rows n ys)
rows-union n xs ys hx hy =
    let sizes : length (rows n xs) ≡ length (rows n ys) = length-rows n xs ∙ sym (length-rows n ys) in
    let same : length xs ≡ length ys = hx ∙ sym hy in
    rows-from n (union xs ys) (union_pairs (rows n xs) (rows n ys)) (length-union xs ys same ∙ hx) (length-union_pairs (rows n xs) (rows n ys) sizes ∙ length-rows n xs)
    (λ a ha. ap length (union_pairs-at (rows n xs) (rows n ys) a sizes)
    ∙ length-union (get_or (rows n xs) a []) (get_or (rows n ys) a []) (length-row n xs a ha hx ∙ sym (length-row n ys a ha hy)) ∙ length-row n xs a ha hx)
    (λ a b ha hb. ap (λ (zs : List Bool). get_or zs b false) (union_pairs-at (rows n xs) (rows n ys) a sizes)
    ∙ union-at (get_or (rows n xs) a []) (get_or (rows n ys) a []) b (length-row n xs a ha hx ∙ sym (length-row n ys a ha hy))
    ∙ ap (λ v. v || get_or (get_or (rows n ys) a []) b false) (rows-at n xs a b ha hb)
    ∙ ap (λ v. get_or xs (a * n + b) false || v) (rows-at n ys a b ha hb)
    ∙ sym (union-at xs ys (a * n + b) same))

-- a place of the square is that of its row and column
positive : (n p : ℕ) → p < n * n → 0 < n
positive zero p h = absurd (omega arith)
positive (suc n) p h = omega arith

module _ (n p : ℕ) (h : p < n * n) where
  row-below : p / n < n
  row-below = div_below p n n (positive n p h) h

  column-below : p % n < n
  column-below = omega (arith, positive n p h)

pub same-rows : (n : ℕ) (xs ys : List Bool) → length xs ≡ n * n → length ys ≡ n * n → rows n xs ≡ rows n ys → xs ≡ ys
same-rows n xs ys hx hy e =
    ext_get_or false xs ys (hx ∙ sym hy)
    (λ p room. let h : p < n * n = subst (λ (k : ℕ). p < k) hx room in
    ap (λ k. get_or xs k false) (sym (div-add-mod' p n))
    ∙ sym (rows-at n xs (p / n) (p % n) (row-below n p h) (column-below n p h))
    ∙ ap (λ (zs : List (List Bool)). get_or (get_or zs (p / n) []) (p % n) false) e
    ∙ rows-at n ys (p / n) (p % n) (row-below n p h) (column-below n p h)
    ∙ ap (λ k. get_or ys k false) (div-add-mod' p n))

-- a member lies below the bound
Has-below : (xs : List Bool) (i : ℕ) → Has xs i → i < length xs
Has-below xs i has = elim (cases_lt i (length xs)) [ inl h ↦ h | inr past ↦ absurd (let e : get_or xs i false ≡ false = get_or_past xs i false past in cc (has, e)) ]

row-past : (xss : List (List Bool)) (a b : ℕ) → HasPair xss a b → a < length xss
row-past xss a b has = elim (cases_lt a (length xss)) [ inl h ↦ h | inr past ↦ absurd (let e : get_or (get_or xss a []) b false ≡ false = ap (λ (zs : List Bool). get_or zs b false) (get_or_past xss a [] past) in cc (has, e)) ]

pub adds-iff : (n : ℕ) (xs ys : List Bool) → length xs ≡ n * n → length ys ≡ n * n → (Adds ys xs → AddsPair (rows n ys) (rows n xs)) × (AddsPair (rows n ys) (rows n xs) → Adds ys xs)
adds-iff n xs ys hx hy = (
  λ adds.
      let h : adds.0 < n * n = subst (λ (k : ℕ). adds.0 < k) hy (Has-below ys adds.0 adds.1) in (
        adds.0 / n,
        adds.0 % n,
        rows-at n ys (adds.0 / n) (adds.0 % n) (row-below n adds.0 h) (column-below n adds.0 h) ∙ ap (λ k. get_or ys k false) (div-add-mod' adds.0 n) ∙ adds.1,
        rows-at n xs (adds.0 / n) (adds.0 % n) (row-below n adds.0 h) (column-below n adds.0 h) ∙ ap (λ k. get_or xs k false) (div-add-mod' adds.0 n) ∙ adds.2,
      ),
  λ adds.
      let ha : adds.0 < n = subst (λ (k : ℕ). adds.0 < k) (length-rows n ys) (row-past (rows n ys) adds.0 adds.1 adds.2) in
      let hb : adds.1 < n = subst (λ (k : ℕ). adds.1 < k) (length-row n ys adds.0 ha hy) (Has-below (get_or (rows n ys) adds.0 []) adds.1 adds.2) in (
        adds.0 * n + adds.1,
        sym (rows-at n ys adds.0 adds.1 ha hb) ∙ adds.2,
        sym (rows-at n xs adds.0 adds.1 ha hb) ∙ adds.3,
      ),
)

-- ---- the code's squares, by the rows that they are seen as

side : (n : ℕ) (bits : List Bool) (xs : List (List Bool)) → rows n bits ≡ xs → length xs ≡ n
side n bits xs view = ap length (sym view) ∙ length-rows n bits

pub square-rows : (n : ℕ) (bits : List Bool) (xs : List (List Bool)) → IsSquare n bits → rows n bits ≡ xs → AreSquare xs
square-rows n bits xs square view =
    subst (λ (zs : List (List Bool)). AreSquare zs) view
    (λ a h. length-row n bits a (subst (λ (k : ℕ). a < k) (length-rows n bits) h) square.filled ∙ sym (length-rows n bits))

module _ (n : ℕ) (bits : List Bool) (xs : List (List Bool)) (a b : ℕ) (square : IsSquare n bits) (view : rows n bits ≡ xs) (ha : a < length xs) (hb : b < length xs) where
  below-a : a < n
  below-a = subst (λ (k : ℕ). a < k) (side n bits xs view) ha

  below-b : b < n
  below-b = subst (λ (k : ℕ). b < k) (side n bits xs view) hb

  pub place-there : a * n + b < length bits
  place-there = rw square.filled (mul-add-lt a n b n below-a below-b)

  pub value-at : get_or bits (a * n + b) false ≡ get_or (get_or xs a []) b false
  value-at = sym (rows-at n bits a b below-a below-b) ∙ ap (λ (zs : List (List Bool)). get_or (get_or zs a []) b false) view

  pub viewed-set : (new : List Bool) → new ≡ set bits (a * n + b) true → rows n new ≡ with_pair xs a b
  viewed-set new e = ap (rows n) e ∙ rows-set n bits a b square.filled below-a below-b ∙ ap (λ (zs : List (List Bool)). with_pair zs a b) view

  pub viewed-lacks : (r : Bool) → IsTrue r ↔ Lacks bits (a * n + b) → IsTrue r ↔ LacksPair xs a b
  viewed-lacks r h = (λ t. sym value-at ∙ h.0 t, λ l. h.1 (value-at ∙ l))

  pub viewed-has : (r : Bool) → r ≡ get_or bits (a * n + b) false → IsTrue r ↔ HasPair xs a b
  viewed-has r e = (λ t. sym value-at ∙ sym e ∙ t, λ h. e ∙ value-at ∙ h)

module _ (n m : ℕ) (bits others : List Bool) (xs ys : List (List Bool)) (square : IsSquare n bits) (other_square : IsSquare m others) (view : rows n bits ≡ xs) (other_view : rows m others ≡ ys) (sizes : length xs ≡ length ys) where
  one-side : m ≡ n
  one-side = sym (side m others ys other_view) ∙ sym sizes ∙ side n bits xs view

  other-filled : length others ≡ n * n
  other-filled = subst (λ (k : ℕ). length others ≡ k * k) one-side other_square.filled

  other-rows : rows n others ≡ ys
  other-rows = subst (λ (k : ℕ). rows k others ≡ ys) one-side other_view

  pub as-many : length bits ≡ length others
  as-many = square.filled ∙ sym other-filled

  pub viewed-union : (new : List Bool) → new ≡ union bits others → rows n new ≡ union_pairs xs ys
  viewed-union new e = ap (rows n) e ∙ rows-union n bits others square.filled other-filled ∙ ap (λ (zs : List (List Bool)). union_pairs zs (rows n others)) view ∙ ap (union_pairs xs) other-rows

  pub viewed-square : (new : List Bool) → new ≡ union bits others → IsSquare n new
  viewed-square new e = record {
    bound = square.bound;
    filled = ap length e ∙ length-union bits others as-many ∙ square.filled;
  }

  pub viewed-adds : (r : Bool) → IsTrue r ↔ Adds others bits → IsTrue r ↔ AddsPair ys xs
  viewed-adds r h =
      let both : (Adds others bits → AddsPair (rows n others) (rows n bits)) × (AddsPair (rows n others) (rows n bits) → Adds others bits) = adds-iff n bits others square.filled other-filled in (
        λ t. subst (λ (zs : List (List Bool)). AddsPair ys zs) view (subst (λ (zs : List (List Bool)). AddsPair zs (rows n bits)) other-rows (both.0 (h.0 t))),
        λ adds. h.1 (both.1 (subst (λ (zs : List (List Bool)). AddsPair zs (rows n bits)) (sym other-rows) (subst (λ (zs : List (List Bool)). AddsPair ys zs) (sym view) adds))),
      )

  pub viewed-equal : (r : Bool) → IsTrue r ↔ (bits ≡ others) → IsTrue r ↔ (xs ≡ ys)
  viewed-equal r h = (
    λ t. sym view ∙ ap (rows n) (h.0 t) ∙ other-rows,
    λ e. h.1 (same-rows n bits others square.filled other-filled (view ∙ e ∙ sym other-rows)),
  )

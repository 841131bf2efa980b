-- Pieces of the bytes of a switch.
use Rattle.std.proofs.Common.{◌≡◌, ℕ, zero, suc, ◌+◌, ◌-◌, ◌*◌, ◌≤◌, ◌<◌, List, ◌∷◌, ◌++◌, length, take, drop, get_or, refl, ap, ◌∙◌, arith, add-zero, add_assoc}
use Rattle.std.proofs.lemmas.List.{length-take, length-drop, get_or-take, get_or-drop, drop-drop}
use Rattle.std.proofs.Math.Seq.{take-add}
use Rattle.ja_code.specs.Bytes.{far, u4_at, places}

-- the first bytes from a place on, and those behind them
pub cut : (m n k : ℕ) (xs : List ℕ) → take (m + n) (drop k xs) ≡ take m (drop k xs) ++ take n (drop (k + m) xs)
cut m n k xs = take-add m n (drop k xs) ∙ ap (λ (ys : List ℕ). take m (drop k xs) ++ take n ys) (drop-drop m k xs)

-- four bytes are one number wherever they stand
pub u4_same : (xs ys : List ℕ) (i j : ℕ) → ((k : ℕ) → k < 4 → get_or xs (i + k) 0 ≡ get_or ys (j + k) 0) → u4_at xs i ≡ u4_at ys j
u4_same xs ys i j same =
    let e0 : get_or xs i 0 ≡ get_or ys j 0 = simp add-zero at (same 0 (omega arith)) in
    let e1 : get_or xs (i + 1) 0 ≡ get_or ys (j + 1) 0 = same 1 (omega arith) in
    let e2 : get_or xs (i + 2) 0 ≡ get_or ys (j + 2) 0 = same 2 (omega arith) in
    let e3 : get_or xs (i + 3) 0 ≡ get_or ys (j + 3) 0 = same 3 (omega arith) in
    rw (e0, e1, e2, e3) refl

-- the targets of a table are the same wherever it stands
pub places_same : (pc stride : ℕ) (xs ys : List ℕ) (i j count n : ℕ) → stride * count + 4 ≤ n + stride
    → ((k : ℕ) → k < n → get_or xs (i + k) 0 ≡ get_or ys (j + k) 0) → places pc xs stride i count ≡ places pc ys stride j count
places_same pc stride xs ys i j zero n fits same = refl
places_same pc stride xs ys i j (suc count) n fits same =
    let here : u4_at xs i ≡ u4_at ys j = u4_same xs ys i j (λ k below. same k (omega arith)) in
    let others : places pc xs stride (i + stride) count ≡ places pc ys stride (j + stride) count =
    places_same pc stride xs ys (i + stride) (j + stride) count (n - stride) (omega arith)
    (λ k below. rw (add_assoc i stride k, add_assoc j stride k) (same (stride + k) (omega arith))) in
    ap (λ (t : ℕ). far pc t ∷ places pc xs stride (i + stride) count) here ∙ ap (λ (ts : List ℕ). far pc (u4_at ys j) ∷ ts) others

-- a byte of a piece
pub piece_at : (xs : List ℕ) (n first offset place k : ℕ) → first + offset ≡ place → offset + k < n
    → get_or (take n (drop first xs)) (offset + k) 0 ≡ get_or xs (place + k) 0
piece_at xs n first offset place k e below =
    let whole : first + (offset + k) ≡ place + k = omega arith in
    rw (get_or-take n (drop first xs) (offset + k) 0 below, get_or-drop first xs (offset + k) 0, whole) refl

-- the number of a piece of four bytes
pub piece_number : (xs : List ℕ) (first place : ℕ) → first ≡ place → u4_at (take 4 (drop first xs)) 0 ≡ u4_at xs place
piece_number xs first place e = u4_same (take 4 (drop first xs)) xs 0 place (λ k below. piece_at xs 4 first 0 place k (omega arith) (omega arith))

-- the bytes of tableswitch in its parts
pub table_text : (op : ℕ) (rest : List ℕ) (p m : ℕ) → take (p + 13 + m) (op ∷ rest)
    ≡ op ∷ (take p (drop 1 (op ∷ rest)) ++ (take 4 (drop (1 + p) (op ∷ rest)) ++ (take 4 (drop (1 + p + 4) (op ∷ rest)) ++ (take 4 (drop (1 + p + 4 + 4) (op ∷ rest)) ++ take m (drop (1 + p + 4 + 4 + 4) (op ∷ rest))))))
table_text op rest p m =
    let bytes : List ℕ = op ∷ rest in
    let size : p + 13 + m ≡ suc (p + (4 + (4 + (4 + m)))) = omega arith in
    rw size (ap (λ (t : List ℕ). op ∷ t)
    (cut p (4 + (4 + (4 + m))) 1 bytes ∙ ap (λ (t : List ℕ). take p (drop 1 bytes) ++ t)
    (cut 4 (4 + (4 + m)) (1 + p) bytes ∙ ap (λ (t : List ℕ). take 4 (drop (1 + p) bytes) ++ t)
    (cut 4 (4 + m) (1 + p + 4) bytes ∙ ap (λ (t : List ℕ). take 4 (drop (1 + p + 4) bytes) ++ t) (cut 4 m (1 + p + 4 + 4) bytes)))))

-- the bytes of lookupswitch in its parts
pub lookup_text : (op : ℕ) (rest : List ℕ) (p m : ℕ) → take (p + 9 + m) (op ∷ rest)
    ≡ op ∷ (take p (drop 1 (op ∷ rest)) ++ (take 4 (drop (1 + p) (op ∷ rest)) ++ (take 4 (drop (1 + p + 4) (op ∷ rest)) ++ take m (drop (1 + p + 4 + 4) (op ∷ rest)))))
lookup_text op rest p m =
    let bytes : List ℕ = op ∷ rest in
    let size : p + 9 + m ≡ suc (p + (4 + (4 + m))) = omega arith in
    rw size (ap (λ (t : List ℕ). op ∷ t)
    (cut p (4 + (4 + m)) 1 bytes ∙ ap (λ (t : List ℕ). take p (drop 1 bytes) ++ t)
    (cut 4 (4 + m) (1 + p) bytes ∙ ap (λ (t : List ℕ). take 4 (drop (1 + p) bytes) ++ t) (cut 4 m (1 + p + 4) bytes))))

-- a piece that lies in the bytes has its whole length
pub piece_length : (xs : List ℕ) (n first : ℕ) → first + n ≤ length xs → length (take n (drop first xs)) ≡ n
piece_length xs n first there = omega (arith, length-take n (drop first xs), length-drop first xs)

-- Entries that are read one after another, as a loop does.
use Rattle.std.proofs.Common.{◌≡◌, ℕ, suc, ◌-◌, ◌+◌, ◌≤◌, ◌<◌, List, [], ◌∷◌, ◌++◌, Option, Some, None, refl, sym, ap, ◌∙◌, append_assoc, arith}
use Rattle.std.proofs.lemmas.List.{append-nil}
use Rattle.ja_class.specs.declared.first.FirstFault.{FirstFault}
use Rattle.ja_class.specs.declared.first.FirstFault.TheVariants.{Unbuilt, Memory}
use Rattle.ja_class.specs.Pool.{PoolEntry}
use Rattle.ja_class.specs.InnerReading.{◌>>=◌, Fails, entry_from, entries_from}

-- the entries so far, before those that are still read
abbrev pub after_front : List PoolEntry → Option (List PoolEntry × List ℕ) → Option (List PoolEntry × List ℕ)
after_front front read = read >>= λ x. Some (front ++ x.0, x.1)

move : (front : List PoolEntry) (e : PoolEntry) (read : Option (List PoolEntry × List ℕ)) → after_front front (read >>= λ x. Some (e ∷ x.0, x.1)) ≡ after_front (front ++ e ∷ []) read
move front e (Some x) = ap (λ (es : List PoolEntry). Some (es, x.1)) (simp append_assoc)
move front e None = refl

-- one more entry
pub more : (front : List PoolEntry) (count i : ℕ) (bytes : List ℕ) (e : PoolEntry) (rest : List ℕ) (total : Option (List PoolEntry × List ℕ)) → i < count → entry_from bytes ≡ Some (e, rest)
    → after_front front (entries_from (count - i) bytes) ≡ total → after_front (front ++ e ∷ []) (entries_from (count - (i + 1)) rest) ≡ total
unfolding entries_from
more front count i bytes e rest total lt read so_far =
    let left : count - i ≡ suc (count - (i + 1)) = omega arith in
    let one : after_front front (entries_from (count - i) bytes) ≡ after_front (front ++ e ∷ []) (entries_from (count - (i + 1)) rest) = rw (left, read) (move front e (entries_from (count - (i + 1)) rest)) in
    sym one ∙ so_far

-- an entry that is refused
pub refused : (fault : FirstFault) (front : List PoolEntry) (count i : ℕ) (bytes : List ℕ) (total : Option (List PoolEntry × List ℕ)) → i < count → Fails fault (entry_from bytes)
    → after_front front (entries_from (count - i) bytes) ≡ total → Fails fault total
unfolding entries_from
refused Memory front count i bytes total lt read so_far = tt
refused Unbuilt front count i bytes total lt read so_far =
    let left : count - i ≡ suc (count - (i + 1)) = omega arith in
    let one : after_front front (entries_from (count - i) bytes) ≡ None = rw (left, read) refl in
    sym so_far ∙ one

-- no entry is left
pub all : (front : List PoolEntry) (count i : ℕ) (bytes : List ℕ) (total : Option (List PoolEntry × List ℕ)) → count ≤ i → after_front front (entries_from (count - i) bytes) ≡ total → total ≡ Some (front, bytes)
unfolding entries_from
all front count i bytes total le so_far =
    let left : count - i ≡ 0 = omega arith in
    let one : after_front front (entries_from (count - i) bytes) ≡ Some (front, bytes) = rw left (ap (λ (es : List PoolEntry). Some (es, bytes)) (append-nil front)) in
    sym so_far ∙ one

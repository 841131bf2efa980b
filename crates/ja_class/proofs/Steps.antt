-- Single steps of the reader's loops and look-ups.
use Rattle.std.proofs.Common.{◌≡◌, ℕ, zero, suc, ◌+◌, ◌-◌, ◌<◌, ◌≤◌, Bool, false, ◌&&◌, List, [], ◌∷◌, length, get_or, drop, Option, Some, None, option_map, refl, sym, arith, add-one, drop-cons, nat_eq, ltb, is_some, Bor, IfSome}
use Rattle.std.specs.Option.{option_copied}
use Rattle.std.proofs.lemmas.Bool.{ltb-true, ltb-false}
use Rattle.std.proofs.lemmas.List.{drop_all, length-drop}
use Rattle.std.specs.Prelude.{slice_get}
use Rattle.std.specs.List.{list_all}
use Rattle.std.proofs.lemmas.Option.{slice_get-map, slice_get_past, slice_get_read}
use Rattle.ja_class.specs.Pool.{PoolEntry, entry_at}
use Rattle.ja_class.specs.declared.first.constant.Constant.{Constant}
use Rattle.ja_class.specs.InnerViews.{entry_view, entries}
use Rattle.ja_class.specs.InnerReading.{holds_of, left_after, is_utf8, frame_after, is_return, runs}
use Rattle.ja_class.specs.declared.first.FirstInstr.{FirstInstr}
use Rattle.ja_class.specs.declared.first.frame.Frame.{Frame}

-- the entry with an index above 0
pub entry_of : (pool : List Constant) (i : ℕ) → (i ≡ 0 → ⊥) → option_map entry_view (slice_get pool (i - 1)) ≡ entry_at (entries pool) i
entry_of pool zero h = absurd (h refl)
entry_of pool (suc i) h =
    let one : suc i - 1 ≡ i = omega arith in
    rw one (sym (slice_get-map entry_view pool i))

-- what `get` and `copied` give
pub copied_is : (pool : List Constant) (k : ℕ) (r : Option (Bor Constant)) → is_some r ≡ ltb k (length pool) → IfSome r (λ x. x.now ≡ get_or pool k x.now) → option_copied r ≡ slice_get pool k
copied_is pool k None there at = sym (slice_get_past pool k (ltb-false k (length pool) (sym there)))
copied_is pool k (Some x) there at = sym (slice_get_read pool (length pool) k x.now refl (ltb-true k (length pool) (sym there)) at)

-- the bytes from a place on
pub utf8_step : (more : ℕ) (bytes : List ℕ) (i : ℕ) → i < length bytes → is_utf8 more (drop i bytes) ≡ holds_of (left_after more (get_or bytes i 0)) (λ left. is_utf8 left (drop (i + 1) bytes))
unfolding is_utf8
utf8_step more bytes i h = rw (add-one, drop-cons bytes i 0) refl

pub utf8_end : (more : ℕ) (bytes : List ℕ) (i : ℕ) → length bytes ≤ i → is_utf8 more (drop i bytes) ≡ nat_eq more 0
unfolding is_utf8
utf8_end more bytes i h = rw (drop_all i bytes h) refl

-- the entries from a place on
pub allowed_step : (p : PoolEntry → Bool) (pool : List Constant) (i : ℕ) (e : Constant) → i < length pool → e ≡ get_or pool i e → list_all p (entries (drop i pool)) ≡ (p (entry_view e) && list_all p (entries (drop (i + 1) pool)))
allowed_step p pool i e h at = rw (add-one, drop-cons pool i e, ← at) refl

-- ---- the run of the instructions

runs_cons : (frame : Frame) (x : FirstInstr) (xs : List FirstInstr) → 0 < length xs → runs frame (x ∷ xs) ≡ holds_of (frame_after frame x.op) (λ next. runs next xs)
unfolding runs
runs_cons frame x [] h = absurd (omega arith)
runs_cons frame x (y ∷ ys) h = refl

-- one more instruction
pub runs_more : (frame : Frame) (code : List FirstInstr) (i : ℕ) (x : FirstInstr) → i < length code → (i + 1 ≡ length code → ⊥) → runs frame (drop i code) ≡ holds_of (frame_after frame (get_or code i x).op) (λ next. runs next (drop (i + 1) code))
runs_more frame code i x lt h =
    let left : 0 < length (drop (suc i) code) = omega (arith, length-drop (suc i) code) in
    rw (add-one, drop-cons code i x) (runs_cons frame (get_or code i x) (drop (suc i) code) left)

-- the last instruction
pub runs_last : (frame : Frame) (code : List FirstInstr) (i : ℕ) (x : FirstInstr) → i < length code → i + 1 ≡ length code → runs frame (drop i code) ≡ is_return (get_or code i x).op
unfolding runs
runs_last frame code i x lt h =
    let none : drop (suc i) code ≡ [] = drop_all (suc i) code (omega arith) in
    rw (drop-cons code i x, none) refl

-- no instruction
pub runs_none : (frame : Frame) (code : List FirstInstr) (i : ℕ) → length code ≤ i → runs frame (drop i code) ≡ false
unfolding runs
runs_none frame code i h = rw (drop_all i code h) refl

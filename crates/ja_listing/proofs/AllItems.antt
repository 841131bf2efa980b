-- Reading items one after another, and what it says of all of them.
use Rattle.std.proofs.Common.{◌≡◌, ℕ, zero, suc, ◌+◌, ◌<◌, ◌⊎◌, inl, inr, Bool, true, false, cond, List, [], ◌∷◌, ◌++◌, length, take, drop, reverse, slice_get, Option, Some, None, Result, Ok, Err, refl, ap, sym, ◌∙◌, subst, append_assoc, arith}
use Rattle.std.specs.List.{position_or_len}
use Rattle.std.proofs.lemmas.List.{append-nil}
use Rattle.std.proofs.lemmas.Grind.{reverse_onto}
use Rattle.std.proofs.lemmas.Option.{cond_some}
use Rattle.ja_listing.specs.declared.glyph.Glyph.{Glyph}
use Rattle.ja_listing.specs.declared.item.Line.{Line}
use Rattle.ja_listing.specs.declared.word.Word.{Word}
use Rattle.ja_listing.specs.Text.{is_end, parted}
use Rattle.ja_listing.specs.Word.{words}
use Rattle.ja_listing.proofs.Glyphs.{part_at}
use Rattle.ja_listing.specs.Order.{stands}
use Rattle.ja_listing.specs.Notation.{has_words, items_in, meaning, Means, Breaks}
use Rattle.ja_listing.specs.InnerReading.{next, step, go_on, read}

pub behind_one : (line : Line) (earlier lines : List Line) → reverse (line ∷ earlier) ++ lines ≡ reverse earlier ++ line ∷ lines
behind_one line earlier lines = ap (λ ls. ls ++ lines) (reverse_onto earlier line []) ∙ append_assoc (reverse earlier) (line ∷ []) lines

-- ---- what items mean is read

pub means_read : (earlier : List Line) (items : List (Option (List Word))) (lines : List Line) → Means earlier items lines → read earlier items ≡ Ok (reverse earlier ++ lines)
unfolding read
means_read earlier [] [] h = ap (λ ls. Ok ls) (sym (append-nil (reverse earlier)))
means_read earlier [] (line ∷ lines) h = absurd h
means_read earlier (item ∷ items) [] h = absurd h
means_read earlier (item ∷ items) (line ∷ lines) h =
    rw (h.0, h.1) (means_read (line ∷ earlier) items lines h.2 ∙ ap (λ ls. Ok ls) (behind_one line earlier lines))

next_none : (earlier : List Line) (found : Option Line) → Breaks earlier found → next earlier found ≡ None
next_none earlier None h = refl
next_none earlier (Some line) h = rw h refl

pub breaks_read : (earlier : List Line) (items : List (Option (List Word))) (lines : List Line) (k : ℕ) (item : Option (List Word))
    → Means earlier (take k items) lines → slice_get items k ≡ Some item → Breaks (reverse lines ++ earlier) (meaning item) → read earlier items ≡ Err (length earlier + k)
unfolding read
breaks_read earlier [] lines k item h there breaks = cc
breaks_read earlier (i ∷ is) [] zero item h there breaks =
    let e : i ≡ item = cc in
    rw (e, next_none earlier (meaning item) breaks) (ap (λ n. Err n) (omega arith))
breaks_read earlier (i ∷ is) (line ∷ lines) zero item h there breaks = absurd h
breaks_read earlier (i ∷ is) [] (suc k) item h there breaks = absurd h
breaks_read earlier (i ∷ is) (line ∷ lines) (suc k) item h there breaks =
    let more = subst (λ (ls : List Line). Breaks ls (meaning item)) (ap (λ ls. ls ++ earlier) (reverse_onto lines line []) ∙ append_assoc (reverse lines) (line ∷ []) earlier) breaks in
    rw (h.0, h.1) (breaks_read (line ∷ earlier) is lines k item h.2 there more ∙ ap (λ n. Err n) (omega arith))

-- ---- what is read is what items mean

go_ok : (o : Option (List Line)) (n : ℕ) (f : List Line → Result (List Line) ℕ) (all : List Line) → go_on o n f ≡ Ok all
    → (lines : List Line) × (o ≡ Some lines) × (f lines ≡ Ok all)
go_ok None n f all h = cc
go_ok (Some lines) n f all h = (lines, refl, h)

go_err : (o : Option (List Line)) (n : ℕ) (f : List Line → Result (List Line) ℕ) (m : ℕ) → go_on o n f ≡ Err m
    → ((o ≡ None) × (m ≡ n)) ⊎ ((lines : List Line) × (o ≡ Some lines) × (f lines ≡ Err m))
go_err None n f m h = let e : m ≡ n = cc in inl (refl, e)
go_err (Some lines) n f m h = inr (lines, refl, h)

next_some : (earlier : List Line) (found : Option Line) (lines : List Line) → next earlier found ≡ Some lines
    → (line : Line) × (found ≡ Some line) × (stands earlier line ≡ true) × (lines ≡ line ∷ earlier)
next_some earlier None lines h = cc
next_some earlier (Some line) lines h = let e = cond_some (stands earlier line) (line ∷ earlier) lines h in (line, refl, e.0, sym e.1)

stands_not : (b : Bool) (lines : List Line) → cond b (Some lines) None ≡ None → b ≡ false
stands_not true lines h = cc
stands_not false lines h = refl

none_breaks : (earlier : List Line) (found : Option Line) → next earlier found ≡ None → Breaks earlier found
none_breaks earlier None h = tt
none_breaks earlier (Some line) h = stands_not (stands earlier line) (line ∷ earlier) h

pub read_means : (earlier : List Line) (items : List (Option (List Word))) (all : List Line) → read earlier items ≡ Ok all
    → (lines : List Line) × Means earlier items lines × (all ≡ reverse earlier ++ lines)
unfolding read
read_means earlier [] all h = let e : reverse earlier ≡ all = cc in ([], tt, sym e ∙ sym (append-nil (reverse earlier)))
read_means earlier (item ∷ items) all h =
    let a = go_ok (next earlier (meaning item)) (length earlier) (λ lines. read lines items) all h in
    let b = next_some earlier (meaning item) a.0 a.1 in
    let here : read (b.0 ∷ earlier) items ≡ Ok all = subst (λ (ls : List Line). read ls items ≡ Ok all) b.3 a.2 in
    let c = read_means (b.0 ∷ earlier) items all here in
    (b.0 ∷ c.0, (b.1, b.2, c.1), c.2 ∙ behind_one b.0 earlier c.0)

-- behind earlier ones, the number of the first item that breaks the notation
pub record Found (earlier : List Line) (items : List (Option (List Word))) (n : ℕ) : Type 0 where
  pub lines : List Line
  pub k : ℕ
  pub item : Option (List Word)
  pub before : Means earlier (take k items) lines
  pub there : slice_get items k ≡ Some item
  pub breaks : Breaks (reverse lines ++ earlier) (meaning item)
  pub place : n ≡ length earlier + k

later : (earlier : List Line) (item : Option (List Word)) (items : List (Option (List Word))) (n : ℕ) (line : Line) → meaning item ≡ Some line → stands earlier line ≡ true
    → Found (line ∷ earlier) items n → Found earlier (item ∷ items) n
later earlier item items n line e s f =
    record {
      lines = line ∷ f.lines;
      k = suc f.k;
      item = f.item;
      before = (e, s, f.before);
      there = f.there;
      breaks = subst (λ (ls : List Line). Breaks ls (meaning f.item)) (sym (ap (λ ls. ls ++ earlier) (reverse_onto f.lines line []) ∙ append_assoc (reverse f.lines) (line ∷ []) earlier)) f.breaks;
      place = omega (arith, f.place);
    }

pub read_breaks : (earlier : List Line) (items : List (Option (List Word))) (n : ℕ) → read earlier items ≡ Err n → Found earlier items n
unfolding read
read_breaks earlier [] n h = cc
read_breaks earlier (item ∷ items) n h =
    elim (go_err (next earlier (meaning item)) (length earlier) (λ lines. read lines items) n h) [
      | inl e ↦ record { lines = []; k = 0; item = item; before = tt; there = refl; breaks = none_breaks earlier (meaning item) e.0; place = omega (arith, e.1) }
      | inr a ↦
          let b = next_some earlier (meaning item) a.0 a.1 in
          let here : read (b.0 ∷ earlier) items ≡ Err n = subst (λ (ls : List Line). read ls items ≡ Err n) b.3 a.2 in
          later earlier item items n b.0 b.1 b.2 (read_breaks (b.0 ∷ earlier) items n here)
    ]

-- ---- one part of a text at a time

step_by : (earlier more : List Line) (item : Option (List Word)) (items : List (Option (List Word))) (b : Bool) → has_words item ≡ b
    → step earlier item ≡ Some more → read earlier (cond (has_words item) (item ∷ items) items) ≡ read more items
unfolding read
step_by earlier more item items true e h =
    let s : next earlier (meaning item) ≡ Some more = rw e at h in
    rw (e, s) refl
step_by earlier more item items false e h =
    let s : Some earlier ≡ Some more = rw e at h in
    let same : earlier ≡ more = cc in
    rw (e, same) refl

stop_by : (earlier : List Line) (item : Option (List Word)) (items : List (Option (List Word))) (b : Bool) → has_words item ≡ b
    → step earlier item ≡ None → read earlier (cond (has_words item) (item ∷ items) items) ≡ Err (length earlier)
unfolding read
stop_by earlier item items true e h =
    let s : next earlier (meaning item) ≡ None = rw e at h in
    rw (e, s) refl
stop_by earlier item items false e h = let s : Some earlier ≡ None = rw e at h in cc

-- where the first part is read, the others are left
pub part_read : (earlier more : List Line) (text part others : List Glyph) → parted is_end text ≡ part ∷ parted is_end others → step earlier (words part) ≡ Some more
    → read earlier (items_in text) ≡ read more (items_in others)
unfolding items_in
part_read earlier more text part others e h = rw e (step_by earlier more (words part) _ (has_words (words part)) refl h)

-- where the first part breaks the notation, its number is found
pub part_breaks : (earlier : List Line) (text part others : List Glyph) → parted is_end text ≡ part ∷ parted is_end others → step earlier (words part) ≡ None
    → read earlier (items_in text) ≡ Err (length earlier)
unfolding items_in
part_breaks earlier text part others e h = rw e (stop_by earlier (words part) _ (has_words (words part)) refl h)

-- one part more
pub read_step : (earlier more : List Line) (rest part behind : List Glyph) (len : ℕ) (total : Result (List Line) ℕ) → 0 < length rest → len ≡ position_or_len is_end rest
    → part ≡ take len rest → behind ≡ drop (len + 1) rest → step earlier (words part) ≡ Some more → read earlier (items_in rest) ≡ total → read more (items_in behind) ≡ total
read_step earlier more rest part behind len total some e p d h so_far =
    let split : parted is_end rest ≡ part ∷ parted is_end behind = rw (p, d, e) (part_at is_end rest some) in
    sym (part_read earlier more rest part behind split h) ∙ so_far

-- where a part breaks the notation
pub read_stop : (earlier : List Line) (rest part : List Glyph) (len : ℕ) (total : Result (List Line) ℕ) → 0 < length rest → len ≡ position_or_len is_end rest
    → part ≡ take len rest → step earlier (words part) ≡ None → read earlier (items_in rest) ≡ total → total ≡ Err (length earlier)
read_stop earlier rest part len total some e p h so_far =
    let split : parted is_end rest ≡ part ∷ parted is_end (drop (len + 1) rest) = rw (p, e) (part_at is_end rest some) in
    sym so_far ∙ part_breaks earlier rest part (drop (len + 1) rest) split h

-- behind the last part
pub read_end : (earlier : List Line) (rest : List Glyph) (total : Result (List Line) ℕ) → length rest ≡ 0 → read earlier (items_in rest) ≡ total → total ≡ Ok (reverse earlier)
unfolding read items_in parted
read_end earlier [] total e so_far = sym so_far
read_end earlier (g ∷ gs) total e so_far = absurd (omega arith)

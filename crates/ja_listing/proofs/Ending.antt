-- What the whole reading says of a listing.
use Rattle.std.proofs.Common.{◌≡◌, ℕ, List, [], take, reverse, slice_get, Some, Result, Ok, Err, IfOk, IfErr, ap, sym, ◌∙◌, subst, arith}
use Rattle.std.proofs.lemmas.List.{append-nil}
use Rattle.ja_listing.specs.declared.fault.MakeFault.{MakeFault}
use Rattle.ja_listing.specs.declared.fault.MakeFault.TheVariants.{BadListing, Memory}
use Rattle.ja_listing.specs.declared.item.Line.{Line}
use Rattle.ja_listing.specs.Listed.{Listed, lines_of}
use Rattle.ja_listing.specs.Notation.{items_of, meaning, Means, Breaks, Spells, IsFirstBroken, IsCause, Answers}
use Rattle.ja_listing.specs.InnerReading.{read, Lists}
use Rattle.ja_listing.proofs.Listings.{same_classes}
use Rattle.ja_listing.proofs.AllItems.{means_read, breaks_read, read_means, read_breaks}

pub spelled : (text : List ℕ) (r : Result (List Listed) MakeFault) → Lists r (read [] (items_of text)) → IfOk r (Spells text)
spelled text (Ok classes) h =
    let m = read_means [] (items_of text) (lines_of classes) h.0 in
    record { items = subst (λ (ls : List Line). Means [] (items_of text) ls) (sym m.2) m.1; numbers = h.1 }
spelled text (Err fault) h = tt

pub causes : (text : List ℕ) (r : Result (List Listed) MakeFault) → Lists r (read [] (items_of text)) → IfErr r (IsCause text)
causes text (Ok classes) h = tt
causes text (Err (BadListing n)) h =
    let f = read_breaks [] (items_of text) n h in
    let e : f.k ≡ n = omega (arith, f.place) in
    record {
      lines = f.lines;
      before = subst (λ (k : ℕ). Means [] (take k (items_of text)) f.lines) e f.before;
      item = f.item;
      there = subst (λ (k : ℕ). slice_get (items_of text) k ≡ Some f.item) e f.there;
      breaks = subst (λ (ls : List Line). Breaks ls (meaning f.item)) (append-nil (reverse f.lines)) f.breaks;
    }
causes text (Err Memory) h = tt

same_ok : (r : Result (List Line) ℕ) (a b : List Line) → r ≡ Ok a → r ≡ Ok b → a ≡ b
same_ok r a b g h = cc

no_both : (r : Result (List Line) ℕ) (a : List Line) (n : ℕ) → r ≡ Ok a → r ≡ Err n → ⊥
no_both r a n g h = cc

same_err : (r : Result (List Line) ℕ) (a b : ℕ) → r ≡ Err a → r ≡ Err b → a ≡ b
same_err r a b g h = cc

pub only_spelled : (text : List ℕ) (classes : List Listed) → Spells text classes → (r : Result (List Listed) MakeFault) → Lists r (read [] (items_of text)) → Answers r (Ok classes)
only_spelled text classes s (Ok found) h =
    let lines = same_ok (read [] (items_of text)) (lines_of classes) (lines_of found) (means_read [] (items_of text) (lines_of classes) s.items) h.0 in
    ap (λ cs. Ok cs) (same_classes 0 classes found s.numbers h.1 lines)
only_spelled text classes s (Err (BadListing n)) h =
    absurd (no_both (read [] (items_of text)) (lines_of classes) n (means_read [] (items_of text) (lines_of classes) s.items) h)
only_spelled text classes s (Err Memory) h = tt

broken_read : (text : List ℕ) (n : ℕ) → IsFirstBroken text n → read [] (items_of text) ≡ Err n
broken_read text n b =
    breaks_read [] (items_of text) b.lines n b.item b.before b.there (subst (λ (ls : List Line). Breaks ls (meaning b.item)) (sym (append-nil (reverse b.lines))) b.breaks)
    ∙ ap (λ k. Err k) (omega arith)

pub only_broken : (text : List ℕ) (n : ℕ) → IsFirstBroken text n → (r : Result (List Listed) MakeFault) → Lists r (read [] (items_of text)) → Answers r (Err (BadListing n))
only_broken text n b (Ok found) h = absurd (no_both (read [] (items_of text)) (lines_of found) n h.0 (broken_read text n b))
only_broken text n b (Err (BadListing m)) h = ap (λ k. Err (BadListing k)) (same_err (read [] (items_of text)) n m (broken_read text n b) h)
only_broken text n b (Err Memory) h = tt

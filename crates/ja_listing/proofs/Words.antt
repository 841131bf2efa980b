-- Reading the words of an item, one part after the other.
use Rattle.std.proofs.Common.{◌≡◌, ℕ, ◌+◌, ◌<◌, ◌≤◌, true, false, cond, ◌==◌, List, [], ◌∷◌, ◌++◌, length, take, drop, get_or, Option, Some, None, bytes_eq, codes, refl, ap, sym, ◌∙◌, append_assoc, arith}
use Rattle.std.specs.List.{position_or_len}
use Rattle.std.proofs.lemmas.List.{append-nil, length-drop}
use Rattle.std.proofs.lemmas.Option.{same_Some}
use Rattle.std.proofs.lemmas.Bool.Decides.{nat_tests}
use Rattle.ja_listing.specs.declared.fault.ItemFault.{ItemFault}
use Rattle.ja_listing.specs.declared.fault.ItemFault.TheVariants.{Broken, Memory}
use Rattle.ja_listing.specs.declared.glyph.Glyph.{Glyph}
use Rattle.ja_listing.specs.declared.glyph.Glyph.TheVariants.{End, Blank, Letter, Quoted}
use Rattle.ja_listing.specs.declared.word.Word.{Word}
use Rattle.ja_listing.specs.Text.{quote, is_blank, parted}
use Rattle.ja_listing.specs.Word.{◌>>=◌, replaced, begins_whole, has_whole, static_call, bare_words, before, letters, if_last, closed, text_word, part_words, all_words}
use Rattle.ja_listing.proofs.Glyphs.{part_at}
use Rattle.ja_listing.specs.InnerReading.{Fails, with_front, short_at, first_letter, first_quoted}

-- ---- abbreviations

pub short_inside : (word text : List ℕ) → short_at word ≡ Some text → 2 ≤ length word
short_inside [] text h = cc
short_inside (b ∷ []) text h = cc
short_inside (b ∷ c ∷ rest) text h = omega arith

pub short_first : (word text : List ℕ) → short_at word ≡ Some text → replaced word ≡ text ++ replaced (drop 2 word)
unfolding replaced
short_first [] text h = cc
short_first (b ∷ []) text h = cc
short_first (b ∷ c ∷ rest) text h = rw h refl

pub byte_kept : (word : List ℕ) → 0 < length word → short_at word ≡ None → replaced word ≡ get_or word 0 0 ∷ replaced (drop 1 word)
unfolding replaced
byte_kept [] some h = absurd (omega arith)
byte_kept (b ∷ []) some h = refl
byte_kept (b ∷ c ∷ rest) some h = rw h refl

pub none_at : (word : List ℕ) → 0 < length word → begins_whole word ≡ false → has_whole word ≡ has_whole (drop 1 word)
unfolding has_whole
none_at [] some h = absurd (omega arith)
none_at (b ∷ rest) some h = rw h refl

pub some_at : (word : List ℕ) → begins_whole word ≡ true → has_whole word ≡ true
unfolding has_whole
some_at [] h = cc
some_at (b ∷ rest) h = rw h refl

-- ---- the bytes of one word

front_before : (front : List ℕ) (b : ℕ) (read : Option (List ℕ)) → with_front front (before b read) ≡ with_front (front ++ b ∷ []) read
front_before front b None = refl
front_before front b (Some bytes) = ap (λ bs. Some bs) (sym (append_assoc front (b ∷ []) bytes))

letter_more : (front : List ℕ) (text : List Glyph) (b : ℕ) → first_letter text ≡ Some b → with_front front (letters text) ≡ with_front (front ++ b ∷ []) (letters (drop 1 text))
unfolding letters
letter_more front [] b h = cc
letter_more front (End ∷ gs) b h = cc
letter_more front (Blank ∷ gs) b h = cc
letter_more front (Letter c ∷ gs) b h = let e : c ≡ b = cc in rw e (front_before front b (letters gs))
letter_more front (Quoted c ∷ gs) b h = cc

-- one letter more
pub letters_step : (front new : List ℕ) (rest behind : List Glyph) (b : ℕ) (total : Option (List ℕ)) → first_letter rest ≡ Some b → new ≡ front ++ b ∷ [] → behind ≡ drop 1 rest
    → with_front front (letters rest) ≡ total → with_front new (letters behind) ≡ total
letters_step front new rest behind b total h e d so_far = rw (e, d) (sym (letter_more front rest b h) ∙ so_far)

none_letters : (rest : List Glyph) → 0 < length rest → first_letter rest ≡ None → letters rest ≡ None
unfolding letters
none_letters [] some h = absurd (omega arith)
none_letters (End ∷ gs) some h = refl
none_letters (Blank ∷ gs) some h = refl
none_letters (Letter c ∷ gs) some h = cc
none_letters (Quoted c ∷ gs) some h = refl

-- where no letter stands
pub letters_stop : (front : List ℕ) (rest : List Glyph) (total : Option (List ℕ)) → 0 < length rest → first_letter rest ≡ None → with_front front (letters rest) ≡ total → total ≡ None
letters_stop front rest total some h so_far = sym so_far ∙ ap (with_front front) (none_letters rest some h)

-- behind the last letter
pub letters_end : (front : List ℕ) (rest : List Glyph) (total : Option (List ℕ)) → length rest ≡ 0 → with_front front (letters rest) ≡ total → total ≡ Some front
unfolding letters
letters_end front [] total e so_far = sym so_far ∙ ap (λ bs. Some bs) (append-nil front)
letters_end front (g ∷ gs) total e so_far = absurd (omega arith)

quoted_first : (rest : List Glyph) (b : ℕ) → first_quoted rest ≡ Some b → closed rest ≡ cond (b == quote) (if_last (drop 1 rest)) (before b (closed (drop 1 rest)))
unfolding closed
quoted_first [] b h = cc
quoted_first (End ∷ gs) b h = cc
quoted_first (Blank ∷ gs) b h = cc
quoted_first (Letter c ∷ gs) b h = cc
quoted_first (Quoted c ∷ gs) b h = let e : c ≡ b = cc in rw e refl

other_byte : (b : ℕ) → (b ≡ 34 → ⊥) → (b == quote) ≡ false
other_byte b q = grind (arith, nat_tests)

-- one byte of a quoted text more
pub closed_step : (front new : List ℕ) (rest behind : List Glyph) (b : ℕ) (total : Option (List ℕ)) → first_quoted rest ≡ Some b → (b ≡ 34 → ⊥) → new ≡ front ++ b ∷ [] → behind ≡ drop 1 rest
    → with_front front (closed rest) ≡ total → with_front new (closed behind) ≡ total
closed_step front new rest behind b total h q e d so_far =
    let one : closed rest ≡ before b (closed (drop 1 rest)) = quoted_first rest b h ∙ ap (λ t. cond t (if_last (drop 1 rest)) (before b (closed (drop 1 rest)))) (other_byte b q) in
    rw (e, d) (sym (ap (with_front front) one ∙ front_before front b (closed (drop 1 rest))) ∙ so_far)

none_quoted : (rest : List Glyph) → first_quoted rest ≡ None → closed rest ≡ None
unfolding closed
none_quoted [] h = refl
none_quoted (End ∷ gs) h = refl
none_quoted (Blank ∷ gs) h = refl
none_quoted (Letter c ∷ gs) h = refl
none_quoted (Quoted c ∷ gs) h = cc

-- where no byte of a quoted text stands
pub closed_stop : (front : List ℕ) (rest : List Glyph) (total : Option (List ℕ)) → first_quoted rest ≡ None → with_front front (closed rest) ≡ total → total ≡ None
closed_stop front rest total h so_far = sym so_far ∙ ap (with_front front) (none_quoted rest h)

-- at the end of the part
pub closed_never : (front : List ℕ) (rest : List Glyph) (total : Option (List ℕ)) → length rest ≡ 0 → with_front front (closed rest) ≡ total → total ≡ None
closed_never front [] total e so_far = closed_stop front [] total refl so_far
closed_never front (g ∷ gs) total e so_far = absurd (omega arith)

at_last : (gs : List Glyph) → length gs ≡ 0 → if_last gs ≡ Some []
at_last [] h = refl
at_last (g ∷ gs) h = absurd (omega arith)

not_last : (gs : List Glyph) → 0 < length gs → if_last gs ≡ None
not_last [] h = absurd (omega arith)
not_last (g ∷ gs) h = refl

marked : (rest : List Glyph) (b : ℕ) → first_quoted rest ≡ Some b → b ≡ 34 → closed rest ≡ if_last (drop 1 rest)
marked rest b h q =
    let same : (b == quote) ≡ true = rw q refl in
    quoted_first rest b h ∙ ap (λ t. cond t (if_last (drop 1 rest)) (before b (closed (drop 1 rest)))) same

-- the mark that ends a quoted text, where something stands behind it
pub closed_early : (front : List ℕ) (rest : List Glyph) (b : ℕ) (total : Option (List ℕ)) → first_quoted rest ≡ Some b → b ≡ 34 → 1 < length rest
    → with_front front (closed rest) ≡ total → total ≡ None
closed_early front rest b total h q more so_far =
    sym so_far ∙ ap (with_front front) (marked rest b h q ∙ not_last (drop 1 rest) (omega (arith, length-drop 1 rest)))

-- the mark that ends a quoted text
pub closed_end : (front : List ℕ) (rest : List Glyph) (b : ℕ) (total : Option (List ℕ)) → first_quoted rest ≡ Some b → b ≡ 34 → length rest ≤ 1
    → with_front front (closed rest) ≡ total → total ≡ Some front
closed_end front rest b total h q few so_far =
    sym so_far ∙ ap (with_front front) (marked rest b h q ∙ at_last (drop 1 rest) (omega (arith, length-drop 1 rest)))
    ∙ ap (λ bs. Some bs) (append-nil front)

-- ---- one part

pub sink_words : (bytes : List ℕ) → bytes_eq bytes (codes "$I") ≡ false → bytes_eq bytes (codes "$X") ≡ true → bare_words bytes ≡ Some (static_call (codes "demo/Taint.sink(Ljava/lang/String;)V"))
unfolding bare_words
sink_words bytes a b = rw (a, b) refl

pub source_words : (bytes : List ℕ) → bytes_eq bytes (codes "$I") ≡ false → bytes_eq bytes (codes "$X") ≡ false → bytes_eq bytes (codes "$Y") ≡ true
    → bare_words bytes ≡ Some (static_call (codes "demo/Taint.source()Ljava/lang/String;"))
unfolding bare_words
source_words bytes a b c = rw (a, b, c) refl

-- a part that a quoted text begins
pub text_part : (part : List Glyph) (b : ℕ) → first_quoted part ≡ Some b → part_words part ≡ text_word (closed (drop 1 part))
unfolding part_words
text_part [] b h = cc
text_part (End ∷ gs) b h = cc
text_part (Blank ∷ gs) b h = cc
text_part (Letter c ∷ gs) b h = cc
text_part (Quoted c ∷ gs) b h = refl

-- a part that no quoted text begins
pub bare_part : (part : List Glyph) → 0 < length part → first_quoted part ≡ None → part_words part ≡ (letters part >>= bare_words)
unfolding part_words letters
bare_part [] some h = absurd (omega arith)
bare_part (End ∷ gs) some h = refl
bare_part (Blank ∷ gs) some h = refl
bare_part (Letter c ∷ gs) some h = refl
bare_part (Quoted c ∷ gs) some h = cc

-- ---- the words of parts

joined : (old new : List Word) (read others : Option (List Word)) → with_front old read ≡ Some new
    → with_front old (read >>= λ first. others >>= λ more. Some (first ++ more)) ≡ with_front new others
joined old new None others h = cc
joined old new (Some first) None h = refl
joined old new (Some first) (Some more) h =
    let e : old ++ first ≡ new = same_Some _ _ h in
    rw (← e, append_assoc) refl

-- where the words of the first part were added, those of the others are left
pub goes_on : (old new : List Word) (part : List Glyph) (parts : List (List Glyph)) → with_front old (part_words part) ≡ Some new
    → with_front old (all_words (part ∷ parts)) ≡ with_front new (all_words parts)
unfolding all_words
goes_on old new part parts h = joined old new (part_words part) (all_words parts) h

-- where the first part has no words, nothing is read
pub stops : (e : ItemFault) (old : List Word) (part : List Glyph) (parts : List (List Glyph)) → Fails e (part_words part)
    → Fails e (with_front old (all_words (part ∷ parts)))
unfolding all_words
stops Broken old part parts h = rw h refl
stops Memory old part parts h = tt

-- one part more
pub words_step : (old new : List Word) (rest behind : List Glyph) (len : ℕ) (total : Option (List Word)) → 0 < length rest → len ≡ position_or_len is_blank rest → behind ≡ drop (len + 1) rest
    → with_front old (part_words (take len rest)) ≡ Some new → with_front old (all_words (parted is_blank rest)) ≡ total → with_front new (all_words (parted is_blank behind)) ≡ total
words_step old new rest behind len total some e d h so_far =
    let split : parted is_blank rest ≡ take len rest ∷ parted is_blank behind = rw (d, e) (part_at is_blank rest some) in
    sym (goes_on old new (take len rest) (parted is_blank behind) h) ∙ ap (λ ps. with_front old (all_words ps)) (sym split) ∙ so_far

-- where a part breaks the notation
pub words_stop : (e : ItemFault) (old : List Word) (rest : List Glyph) (len : ℕ) (total : Option (List Word)) → 0 < length rest → len ≡ position_or_len is_blank rest
    → Fails e (part_words (take len rest)) → with_front old (all_words (parted is_blank rest)) ≡ total → Fails e total
words_stop Memory old rest len total some l h so_far = tt
words_stop Broken old rest len total some l h so_far =
    let split : parted is_blank rest ≡ take len rest ∷ parted is_blank (drop (len + 1) rest) = rw l (part_at is_blank rest some) in
    sym so_far ∙ ap (λ ps. with_front old (all_words ps)) split ∙ stops Broken old (take len rest) (parted is_blank (drop (len + 1) rest)) h

-- behind the last part
pub words_end : (old : List Word) (rest : List Glyph) (total : Option (List Word)) → length rest ≡ 0 → with_front old (all_words (parted is_blank rest)) ≡ total → total ≡ Some old
unfolding all_words parted
words_end old [] total e so_far = sym so_far ∙ ap (λ ws. Some ws) (append-nil old)
words_end old (g ∷ gs) total e so_far = absurd (omega arith)

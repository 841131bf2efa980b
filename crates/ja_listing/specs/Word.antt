-- The words of an item, with what their abbreviations stand for.
use Rattle.std.specs.Prelude.{ℕ, Bool, false, List, [], ◌∷◌, ◌++◌, Option, Some, None, bytes_eq, codes, ◌==◌, ◌&&◌, ◌||◌, if◌then◌else◌}
use Rattle.ja_listing.specs.declared.glyph.Glyph.{Glyph}
use Rattle.ja_listing.specs.declared.glyph.Glyph.TheVariants.{End, Blank, Letter, Quoted}
use Rattle.ja_listing.specs.declared.word.Word.{Word}
use Rattle.ja_listing.specs.declared.word.Word.TheVariants.{Bare, Text, Whole}
use Rattle.ja_listing.specs.Text.{quote, is_blank, parted}

-- what a step gives is handed on; where it gives nothing, nothing comes
infixl 10 ◌>>=◌
abbrev pub ◌>>=◌ : {A B : Type 0} → Option A → (A → Option B) → Option B
None >>= f = None
(Some x) >>= f = f x

-- `$`
abbrev pub dollar : ℕ
dollar = 36

-- what `$` and a letter stand for inside a word
unfoldable pub abbreviation : ℕ → Option (List ℕ)
abbreviation letter =
    if letter == 83 then Some (codes "Ljava/lang/String;")
    else if letter == 66 then Some (codes "Ljava/lang/StringBuilder;")
    else if letter == 84 then Some (codes "demo/Taint")
    else if letter == 79 then Some (codes "java/lang/Object")
    else if letter == 72 then Some (codes "javax/servlet/http/Http")
    else None

-- what two bytes of a word stand for together
abbrev pub stands_for : ℕ → ℕ → Option (List ℕ)
stands_for b c = if b == dollar then abbreviation c else None

-- a word where its first two bytes may stand for others: those and the rest behind both, or the first alone
abbrev pub replacing : Option (List ℕ) → ℕ → List ℕ → List ℕ → List ℕ
replacing None b behind_both behind_first = b ∷ behind_first
replacing (Some text) b behind_both behind_first = text ++ behind_both

-- the bytes of a word, each abbreviation replaced
unfoldable pub replaced : List ℕ → List ℕ
replaced [] = []
replaced (b ∷ []) = b ∷ []
replaced (b ∷ c ∷ rest) = replacing (stands_for b c) b (replaced rest) (replaced (c ∷ rest))

-- whether `$I`, `$X` or `$Y` stands at the front
abbrev pub begins_whole : List ℕ → Bool
begins_whole [] = false
begins_whole (b ∷ []) = false
begins_whole (b ∷ c ∷ rest) = b == dollar && (c == 73 || c == 88 || c == 89)

-- whether `$I`, `$X` or `$Y` is in a word
unfoldable pub has_whole : List ℕ → Bool
has_whole [] = false
has_whole (b ∷ rest) = begins_whole (b ∷ rest) || has_whole rest

-- the two words of a call of a static method
abbrev pub static_call : List ℕ → List Word
static_call method = Bare (codes "invokestatic") ∷ Bare method ∷ []

-- The words that bytes outside quoted texts stand for: `$I`, the two words of `$X` and of `$Y`, and else one. Inside a
-- longer word `$I`, `$X` and `$Y` break the notation.
unfoldable pub bare_words : List ℕ → Option (List Word)
bare_words bytes =
    if bytes_eq bytes (codes "$I") then Some (Whole ∷ [])
    else if bytes_eq bytes (codes "$X") then Some (static_call (codes "demo/Taint.sink(Ljava/lang/String;)V"))
    else if bytes_eq bytes (codes "$Y") then Some (static_call (codes "demo/Taint.source()Ljava/lang/String;"))
    else if has_whole bytes then None
    else Some (Bare (replaced bytes) ∷ [])

-- a byte before others, where there are such
abbrev pub before : ℕ → Option (List ℕ) → Option (List ℕ)
before b None = None
before b (Some bytes) = Some (b ∷ bytes)

-- the bytes of a part outside quoted texts; none where some of it is inside
unfoldable pub letters : List Glyph → Option (List ℕ)
letters [] = Some []
letters (End ∷ gs) = None
letters (Blank ∷ gs) = None
letters (Letter b ∷ gs) = before b (letters gs)
letters (Quoted b ∷ gs) = None

-- the end of a quoted text, where nothing stands behind it
abbrev pub if_last : List Glyph → Option (List ℕ)
if_last [] = Some []
if_last (g ∷ gs) = None

-- behind the mark that begins it, a quoted text up to the mark that ends it, behind which nothing stands
unfoldable pub closed : List Glyph → Option (List ℕ)
closed [] = None
closed (End ∷ gs) = None
closed (Blank ∷ gs) = None
closed (Letter b ∷ gs) = None
closed (Quoted b ∷ gs) = if b == quote then if_last gs else before b (closed gs)

-- the one word that a quoted text is
abbrev pub text_word : Option (List ℕ) → Option (List Word)
text_word None = None
text_word (Some text) = Some (Text text ∷ [])

-- the words that stand between two blanks: a quoted text, or what bytes outside quoted texts stand for
unfoldable pub part_words : List Glyph → Option (List Word)
part_words [] = Some []
part_words (End ∷ gs) = None
part_words (Blank ∷ gs) = None
part_words (Letter b ∷ gs) = letters (Letter b ∷ gs) >>= bare_words
part_words (Quoted b ∷ gs) = text_word (closed gs)

-- the words of parts, one part after the other
unfoldable pub all_words : List (List Glyph) → Option (List Word)
all_words [] = Some []
all_words (part ∷ parts) = do
  first ← part_words part
  others ← all_words parts
  Some (first ++ others)

-- the words of an item; none where one of them breaks the notation
unfoldable pub words : List Glyph → Option (List Word)
words item = all_words (parted is_blank item)

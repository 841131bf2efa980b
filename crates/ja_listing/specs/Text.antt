-- A text as bytes that stand inside quoted texts and outside, and how it is parted.
use Rattle.std.specs.Prelude.{ℕ, Bool, true, false, not, List, [], ◌∷◌, ◌==◌, ◌&&◌, if◌then◌else◌}
use Rattle.ja_listing.specs.declared.glyph.Glyph.{Glyph}
use Rattle.ja_listing.specs.declared.glyph.Glyph.TheVariants.{End, Blank, Letter, Quoted}

-- the line feed, the blank, the quotation mark and the semicolon
abbrev pub line_feed : ℕ
line_feed = 10

abbrev pub blank : ℕ
blank = 32

abbrev pub quote : ℕ
quote = 34

abbrev pub semicolon : ℕ
semicolon = 59

-- A byte of a text, where within tells whether a quoted text was begun before it and goes on. A quotation mark belongs to
-- the quoted text that it begins or ends; a line feed stands in no quoted text.
abbrev pub glyph : Bool → ℕ → Glyph
glyph within b =
    if b == line_feed then End
    else if within then Quoted b
    else if b == quote then Quoted b
    else if b == blank then Blank
    else Letter b

-- whether a quoted text goes on behind a byte
abbrev pub opens : Bool → ℕ → Bool
opens within b =
    if b == line_feed then false
    else if b == quote then not within
    else within

-- two bytes that part items: semicolons in no quoted text
abbrev pub is_parting : Bool → ℕ → ℕ → Bool
is_parting within b c = not within && (b == semicolon && c == semicolon)

-- whether two such bytes stand at the front
abbrev pub at_parting : Bool → List ℕ → Bool
at_parting within [] = false
at_parting within (b ∷ []) = false
at_parting within (b ∷ c ∷ rest) = is_parting within b c

-- the bytes of a text, from where a quoted text goes on or none does
unfoldable pub glyphs : Bool → List ℕ → List Glyph
glyphs within [] = []
glyphs within (b ∷ []) = glyph within b ∷ []
glyphs within (b ∷ c ∷ rest) =
    if is_parting within b c then End ∷ glyphs false rest
    else glyph within b ∷ glyphs (opens within b) (c ∷ rest)

abbrev pub is_end : Glyph → Bool
is_end End = true
is_end Blank = false
is_end (Letter b) = false
is_end (Quoted b) = false

abbrev pub is_blank : Glyph → Bool
is_blank End = false
is_blank Blank = true
is_blank (Letter b) = false
is_blank (Quoted b) = false

-- parts with one thing more at the front of the first
abbrev pub grown : Glyph → List (List Glyph) → List (List Glyph)
grown g [] = (g ∷ []) ∷ []
grown g (part ∷ parts) = (g ∷ part) ∷ parts

-- what stands before, between and behind those that part; nothing behind the last of them is no part
unfoldable pub parted : (Glyph → Bool) → List Glyph → List (List Glyph)
parted parts [] = []
parted parts (g ∷ gs) = if parts g then [] ∷ parted parts gs else grown g (parted parts gs)

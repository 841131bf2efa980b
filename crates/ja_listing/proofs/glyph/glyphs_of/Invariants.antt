use Rattle.std.proofs.Common.{◌≡◌, ◌++◌, length, false}
use Rattle.ja_listing.specs.Text.{glyphs}
use Rattle.ja_listing.proofs.glyph.glyphs_of.Given as goal

-- the bytes so far and those of the rest are those of the text
abbrev pub invariant-loop-rest : goal.invariant-loop-rest
invariant-loop-rest l = l.found ++ glyphs l.within l.rest ≡ glyphs false l.text

abbrev pub decreases-loop-rest : goal.decreases-loop-rest
decreases-loop-rest l = length l.rest

use Rattle.std.proofs.Common.{◌≡◌, ◌+◌, ◌≤◌, List, [], length}
use Rattle.ja_listing.specs.declared.item.Line.{Line}
use Rattle.ja_listing.specs.Notation.{items_in}
use Rattle.ja_listing.specs.InnerReading.{read}
use Rattle.ja_listing.specs.InnerScope.{IsKept}
use Rattle.ja_listing.proofs.read.read_all.Given as goal

-- the items so far are kept, and behind them the rest reads as all do
abbrev pub invariant-loop-rest : goal.invariant-loop-rest
invariant-loop-rest l =
    ((earlier : List Line) × IsKept earlier l.draft l.scope × (l.number ≡ length earlier) × (read earlier (items_in l.rest) ≡ read [] (items_in l.glyphs)))
    × (l.number + length l.rest ≤ length l.glyphs)

abbrev pub decreases-loop-rest : goal.decreases-loop-rest
decreases-loop-rest l = length l.rest

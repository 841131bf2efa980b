use Rattle.std.proofs.Common.{◌≡◌, ◌≤◌, drop, min}
use Rattle.ja_listing.specs.Number.{decimal}
use Rattle.ja_listing.proofs.number.decimal_of.Given as goal

-- the number so far makes with the rest what all digits make
abbrev pub invariant-loop-digit : goal.invariant-loop-digit
invariant-loop-digit l =
    (min (decimal l.size (drop l.digit-index l.digits)) 4294967295 ≡ min (decimal 0 l.digits) 4294967295) × (l.size ≤ 4294967295)

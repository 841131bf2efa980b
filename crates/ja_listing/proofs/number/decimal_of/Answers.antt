use Rattle.std.proofs.Common.{◌≡◌, ◌+◌, ◌-◌, ◌*◌, [], drop, get_or, min, arith}
use Rattle.std.proofs.lemmas.List.{drop_more, drop_all}
use Rattle.ja_listing.proofs.Numbers.{one_more, no_more}
use Rattle.ja_listing.proofs.number.decimal_of.Goals as goal

pub loop-digit-preserved : goal.loop-digit-preserved
loop-digit-preserved c =
    let i = c.loop-digit.digit-index in
    let xs = c.args.digits.now in
    let d = get_or xs i 0 in
    let e : c.saturating_add-size.result ≡ min (10 * c.loop-digit.size + (d - 48)) 4294967295 = omega (arith, c.saturating_add-size.ensures, c.from-value.ensures, c.saturating_mul.ensures, c.saturating_sub.ensures) in
    let h = rw (drop_more xs i 0 c.loop-digit-test.true) at c.loop-digit.invariant.0 in
    (one_more 4294967295 c.loop-digit.size c.saturating_add-size.result d _ (drop (i + 1) xs) e h, omega (arith, e))

pub returns : goal.returns
returns c =
    let i = c.loop-digit.digit-index in
    let xs = c.args.digits.now in
    let none : drop i xs ≡ [] = drop_all i xs c.loop-digit-test.false in
    let h = rw none at c.loop-digit.invariant.0 in
    no_more 4294967295 c.loop-digit.size _ c.loop-digit.invariant.1 h

use Rattle.std.proofs.Common.{◌≡◌}
use Rattle.std.specs.Prelude.{Some, slice_get}
use Rattle.ja_operations.proofs.Above.{begins_above, begins_named, begins_without}
use Rattle.ja_operations.proofs.target.beginning.Goals as goal

pub returns-then-not-goes_above : goal.returns-then-not-goes_above
returns-then-not-goes_above c =
    begins_named c.args.hier.now c.args.c.0 c.args.member.now (λ above. cc (c.goes_above.ensures.1 above, c.if-not-goes_above.true))

pub returns-in-Some : goal.returns-in-Some
returns-in-Some c =
    let there : slice_get c.args.hier.now c.args.c.0 ≡ Some c.at.result.now = cc in
    begins_above c.args.hier.now c.args.c.0 c.args.member.now c.at.result.now c.in-Some.class there c.in-Some.is (c.goes_above.ensures.0 c.if-not-goes_above.false)

pub returns-in-None : goal.returns-in-None
returns-in-None c =
    let there : slice_get c.args.hier.now c.args.c.0 ≡ Some c.at.result.now = cc in
    begins_without c.args.hier.now c.args.c.0 c.args.member.now c.at.result.now there c.in-None.is

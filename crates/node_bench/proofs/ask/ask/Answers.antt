use Rattle.std.proofs.Common.{◌≡◌, ◌-◌, subst, arith}
use mathlib.Core.Logic.{dite}
use native.Mathlib.Decide.{ℕ_discrete}
use Rattle.ja_node_table.specs.Seats.{known}
use Rattle.node_bench.specs.Made.{IsUnder}
use Rattle.node_bench.proofs.Kept.{under_more, under_less, under_made}
use Rattle.node_bench.proofs.ask.ask.Goals as goal

pub make-requires-clause-node : goal.make-requires-clause-node
make-requires-clause-node c _ = let asked = c.requires.asked in record { low = (asked.low.tree, asked.low.child); high = (asked.high.tree, asked.high.child); aimed = λ _. tt }

pub returns-in-Ok-clause-under : goal.returns-in-Ok-clause-under
returns-in-Ok-clause-under c pos =
    let part = c.args.part in
    let before = known c.args.seat.now in
    let now = known c.make.new.seat in
    let asked = c.requires.asked in
    let made = c.in-Ok.ensures in
    dite (ℕ_discrete part.lo.number part.hi.number)
    (λ e.
    let same : part.lo ≡ c.in-Ok.made = (let one = (made.one_child e).0 in cc) in
    subst (IsUnder now (part.var - 1)) same (under_less now part.var (part.var - 1) part.lo (omega arith) (under_more before now made.grows part.var part.lo asked.low)))
    (λ ne. under_made before now part.var part.lo part.hi c.in-Ok.made asked.low asked.high (made.ok ne) pos)

use Rattle.std.proofs.Common.{sym, ◌∙◌}
use Rattle.ja_facts.specs.Slots as slots
use Rattle.ja_work.proofs.Fitting.{some_any}
use Rattle.ja_clauses.specs.Slots.{as_slot}
use Rattle.ja_clauses.specs.Tables.{tests_by}
use Rattle.ja_clauses.proofs.stays.shares_any.Goals as goal

pub returns-then-shares : goal.returns-then-shares
returns-then-shares c =
    sym (some_any (λ k. (tests_by c.args.before.now).shares (as_slot c.args.slot) (slots.argument c.args.under k)) c.args.count c.loop-k.k c.loop-k-test.true (sym c.shares.ensures ∙ c.if-shares.true))

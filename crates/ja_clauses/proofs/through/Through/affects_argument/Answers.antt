use Rattle.std.proofs.Common.{sym, ◌∙◌, Some}
use Rattle.std.specs.Prelude.{◌&&◌}
use Rattle.std.proofs.lemmas.Bool.{and_from}
use Rattle.ja_facts.specs.Slots as slots
use Rattle.ja_work.specs.Told.{changes_param}
use Rattle.ja_work.proofs.Fitting.{some_any}
use Rattle.ja_clauses.specs.Slots.{as_slot}
use Rattle.ja_clauses.specs.Tables.{tests_by}
use Rattle.ja_clauses.proofs.through.Through.affects_argument.Goals as goal

pub returns-then-shares : goal.returns-then-shares
returns-then-shares c =
    let s = c.args.self.now in
    sym
    (some_any (λ k. changes_param (Some s.callee.now) s.effects.now s.n.0 k && (tests_by s.before).shares (as_slot c.args.slot) (slots.argument s.under k)) s.count c.loop-k.k c.loop-k-test.true
    (and_from (changes_param (Some s.callee.now) s.effects.now s.n.0 c.loop-k.k) ((tests_by s.before).shares (as_slot c.args.slot) (slots.argument s.under c.loop-k.k))
    (sym c.changes_param.ensures ∙ c.if-changes_param.true) (sym c.shares.ensures ∙ c.if-shares.true)))

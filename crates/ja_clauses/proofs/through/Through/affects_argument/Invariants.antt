use Rattle.std.proofs.Common.{◌≡◌, false, Some}
use Rattle.std.specs.Prelude.{◌&&◌}
use Rattle.ja_facts.specs.Slots as slots
use Rattle.ja_facts.specs.Formulas.{any_below}
use Rattle.ja_work.specs.Told.{changes_param}
use Rattle.ja_clauses.specs.Slots.{as_slot}
use Rattle.ja_clauses.specs.Tables.{tests_by}
use Rattle.ja_clauses.proofs.through.Through.affects_argument.Given as goal

abbrev pub invariant-loop-k : goal.invariant-loop-k
invariant-loop-k l = any_below (λ k. changes_param (Some l.self.callee.now) l.self.effects.now l.self.n.0 k && (tests_by l.self.before).shares (as_slot l.slot) (slots.argument l.self.under k)) l.k ≡ false

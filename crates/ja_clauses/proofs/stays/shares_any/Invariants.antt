use Rattle.std.proofs.Common.{◌≡◌, false}
use Rattle.ja_facts.specs.Slots as slots
use Rattle.ja_facts.specs.Formulas.{any_below}
use Rattle.ja_clauses.specs.Slots.{as_slot}
use Rattle.ja_clauses.specs.Tables.{tests_by}
use Rattle.ja_clauses.proofs.stays.shares_any.Given as goal

abbrev pub invariant-loop-k : goal.invariant-loop-k
invariant-loop-k l = any_below (λ k. (tests_by l.before).shares (as_slot l.slot) (slots.argument l.under k)) l.k ≡ false

use Rattle.std.proofs.Common.{◌↔◌, ℕ, List, Bool, subst}
use Rattle.ja_sets.specs.Sets.{Has}
use Rattle.ja_holds.specs.Inner.{IsReachedFrom}
use Rattle.ja_holds.proofs.Covering.{covered-all}
use Rattle.ja_holds.proofs.fields.of_field.Goals as goal

pub returns-clause-each : goal.returns-clause-each
returns-clause-each c =
    subst (λ (set : List Bool). (x : ℕ) → Has c.in_ok-held.field-0.held x ↔ IsReachedFrom c.args.p.now c.args.c.now set x) c.field.ensures
    (covered-all c.args.p.now c.args.c.now c.field.result.now c.in_ok-held.field-0 c.in_ok-held.ensures)

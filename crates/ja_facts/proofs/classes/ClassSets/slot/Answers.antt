use Rattle.std.proofs.Common.{sym, ap, ◌∙◌}
use Rattle.ja_facts.specs.ClassTables.{ClassTable, slot_set}
use Rattle.ja_facts.proofs.Shared.{named-listed, named-unlisted}
use Rattle.ja_facts.proofs.classes.ClassSets.slot.Goals as goal

pub returns-in-Some : goal.returns-in-Some
returns-in-Some c =
    c.at_or.ensures ∙ sym (named-listed c.self.inside.pool c.self.inside.none c.self.inside.slots c.args.m.0 c.args.i c.args.z c.in-Some.name (sym c.in-Some.ensures))
    ∙ ap (λ (t : ClassTable). slot_set t c.args.m.0 c.args.i c.args.z) c.self.view_is

pub returns-in-None : goal.returns-in-None
returns-in-None c =
    sym (named-unlisted c.self.inside.pool c.self.inside.none c.self.inside.slots c.args.m.0 c.args.i c.args.z (sym c.in-None.ensures))
    ∙ ap (λ (t : ClassTable). slot_set t c.args.m.0 c.args.i c.args.z) c.self.view_is

use Rattle.std.proofs.Common.{ap, ◌∙◌, arith}
use Rattle.std.proofs.lemmas.Grind.{common_steps}
use Rattle.ja_facts.specs.ClassTables.{token_count, no_members}
use Rattle.ja_facts.proofs.Shared.{slots-made, thrown-made}
use Rattle.ja_facts.proofs.classes.ClassSets.new.Goals as goal

pub returns : goal.returns
returns c =
    let none = c.in_ok-none.ensures ∙ ap no_members c.token_count-n.ensures in
    let slots = slots-made (token_count c.args.p.now) c.new-pool.result c.in_ok-none.none c.in_ok-slots.slots c.args.p.now.methods c.new-pool.ensures none c.in_ok-slots.ensures in
    let thrown = thrown-made (token_count c.args.p.now) c.new-pool.result c.in_ok-none.none c.in_ok-thrown.thrown c.args.p.now.methods c.new-pool.ensures none c.in_ok-thrown.ensures in
    grind (arith, common_steps)

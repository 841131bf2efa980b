use Rattle.std.proofs.Common.{◌↔◌, ◌⊎◌, ◌<◌, ℕ, List, Bool, sym, subst, ◌∙◌}
use Rattle.ja_sets.specs.Sets.{Has}
use Rattle.ja_facts.specs.ClassTables.{token_count}
use Rattle.ja_holds.proofs.Owning.{followed-with_bag, followed-without}
use Rattle.ja_holds.proofs.search.follow.Goals as goal

pub returns-then-absorbs-clause-has : goal.returns-then-absorbs-clause-has
returns-then-absorbs-clause-has c =
    followed-with_bag c.args.p.now c.args.c.now c.args.tokens.now c.args.token c.args.span.now c.add_by_class.new.to c.add_members.new.to c.requires.declared (sym c.absorbs.ensures ∙ c.if-absorbs.true) c.add_by_class.ensures.has
    (subst (λ (s : List Bool). (v : ℕ) → Has c.add_members.new.to v ↔ (Has c.add_by_class.new.to v ⊎ (Has s v × (v < token_count c.args.p.now)))) c.bag.ensures
    (subst (λ (n : ℕ). (v : ℕ) → Has c.add_members.new.to v ↔ (Has c.add_by_class.new.to v ⊎ (Has c.bag.result.now v × (v < n)))) c.token_count-n.ensures c.add_members.ensures.has))

pub returns-else-absorbs-clause-has : goal.returns-else-absorbs-clause-has
returns-else-absorbs-clause-has c =
    followed-without c.args.p.now c.args.c.now c.args.tokens.now c.args.token c.args.span.now c.add_by_class.new.to c.requires.declared (sym c.absorbs.ensures ∙ c.if-absorbs.false) c.add_by_class.ensures.has

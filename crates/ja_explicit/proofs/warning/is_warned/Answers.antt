use Rattle.std.proofs.Common.{◌||◌, ◌+◌, Bool, List, drop, sym, ap, ◌∙◌}
use Rattle.ja_explicit.specs.declared.item.Item.{Item}
use Rattle.ja_explicit.specs.Tables.{items_of}
use Rattle.ja_explicit.specs.InnerRounds as rounds
use Rattle.ja_explicit.proofs.Looping.{drop_one, drop_none}
use Rattle.ja_explicit.proofs.warning.is_warned.Goals as goal

pub returns-then-warns : goal.returns-then-warns
returns-then-warns c =
    let items = items_of c.args.table.now in
    let rest = rounds.is_warned c.args.p.now (drop (c.loop-k.k + 1) items) c.args.site.now in
    sym
    (sym c.loop-k.invariant ∙ ap (λ (xs : List Item). rounds.is_warned c.args.p.now xs c.args.site.now) (drop_one items c.loop-k.k c.in-Some.item (sym c.at.ensures ∙ c.in-Some.is))
    ∙ ap (λ (b : Bool). b || rest) (sym c.warns.ensures ∙ c.if-warns.true))

pub returns-in-None : goal.returns-in-None
returns-in-None c =
    let items = items_of c.args.table.now in
    sym (sym c.loop-k.invariant ∙ ap (λ (xs : List Item). rounds.is_warned c.args.p.now xs c.args.site.now) (drop_none items c.loop-k.k (sym c.at.ensures ∙ c.in-None.is)))

pub loop-k-preserved : goal.loop-k-preserved
loop-k-preserved c =
    let items = items_of c.args.table.now in
    let rest = rounds.is_warned c.args.p.now (drop (c.loop-k.k + 1) items) c.args.site.now in
    sym
    (ap (λ (xs : List Item). rounds.is_warned c.args.p.now xs c.args.site.now) (drop_one items c.loop-k.k c.in-Some.item (sym c.at.ensures ∙ c.in-Some.is))
    ∙ ap (λ (b : Bool). b || rest) (sym c.warns.ensures ∙ c.if-warns.false))
    ∙ c.loop-k.invariant

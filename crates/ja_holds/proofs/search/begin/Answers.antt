use Rattle.std.proofs.Common.{◌≡◌, List, Bool, true, false, replicate, ap, ◌∙◌, set}
use Rattle.ja_facts.specs.ClassTables.{token_count}
use Rattle.ja_holds.proofs.Searching.{begun, same-search}
use Rattle.ja_holds.proofs.search.begin.Goals as goal

pub returns-clause-search : goal.returns-clause-search
returns-clause-search c =
    let n : c.token_count-n.result ≡ token_count c.args.p.now = c.token_count-n.ensures in
    same-search c.args.p.now c.args.c.now c.args.start _ _ _ _ _ _ (c.add.ensures.set ∙ ap (λ (s : List Bool). set s c.args.start true) (c.in_ok-span.ensures ∙ ap (λ k. replicate k false) n)) (c.in_ok-handled.ensures ∙ ap (λ k. replicate k false) n)
    (c.in_ok-held.ensures ∙ ap (λ k. replicate k false) c.cell_count.ensures) (begun c.args.p.now c.args.c.now c.args.start c.requires)

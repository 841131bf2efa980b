use Rattle.std.proofs.Common.{List, Bool, set, sym, subst}
use Rattle.ja_holds.specs.Searches.{AreDone}
use Rattle.ja_holds.proofs.Searching.{more-done}
use Rattle.ja_holds.proofs.tokens.find_token.Goals as goal

pub returns-in-Ok-clause-done : goal.returns-in-Ok-clause-done
returns-in-Ok-clause-done c =
    subst (λ (held : List (List Bool)). AreDone c.args.p.now c.args.c.now c.put.new.found.spans held c.args.token) (sym c.put.ensures.tokens)
    (subst (λ (spans : List (List Bool)). AreDone c.args.p.now c.args.c.now spans (set c.args.found.now.holds.tokens c.args.token c.in-Ok.search.held) c.args.token) (sym c.put.ensures.spans)
    (more-done c.args.p.now c.args.c.now c.args.found.now.spans c.args.found.now.holds.tokens c.args.token c.in-Ok.search c.requires.done c.requires.inside c.in-Ok.ensures))

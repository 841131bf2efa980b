use Rattle.std.proofs.Common.{ℕ, List, Bool, ap, ◌∙◌}
use Rattle.ja_ir.specs.declared.method.Method.{Method}
use Rattle.ja_facts.specs.FactTables.{live_count, no_pairs}
use Rattle.ja_facts.specs.Shared.{named_rows, method_names}
use Rattle.ja_facts.proofs.Shared.{named-by_method}
use Rattle.ja_facts.proofs.pairs.Reach.new.Goals as goal

pub returns : goal.returns
returns c =
    ap (λ (names : List (List ℕ)). named_rows c.in_ok-pool.pool c.in_ok-none.none names) c.in_ok-names.ensures
    ∙ ap (λ (pool : List (List (List Bool))). named_rows pool c.in_ok-none.none (method_names 0 c.args.p.now.methods)) c.in_ok-pool.ensures
    ∙ named-by_method (λ (method : Method). no_pairs (live_count method)) c.in_ok-none.none c.args.p.now.methods

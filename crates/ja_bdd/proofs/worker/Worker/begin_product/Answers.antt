use Rattle.std.proofs.Common.{sym, ap, ◌∙◌}
use Rattle.std.specs.Prelude.{None}
use Rattle.ja_node_table.specs.Seats.{known}
use Rattle.ja_bdd.specs.Copies.{in_copies, all_forgotten}
use Rattle.ja_bdd.specs.declared.cache.Question.TheVariants.{Product}
use Rattle.ja_bdd.proofs.Cached.{right_found}
use Rattle.ja_bdd.proofs.worker.Worker.begin_product.Goals as goal

pub returns-in-Some-clause-ok : goal.returns-in-Some-clause-ok
returns-in-Some-clause-ok g c =
    let w = c.args.self.now in
    let p = c.in-Err.open in
    let answer = right_found None (known w.seat) w.cache.items (Product p.0 p.1 c.args.copies) c.in-Some.n w.right c.in-Some.ensures in
    (answer.0, sym answer.1.2 ∙ ap (all_forgotten (in_copies c.args.copies)) c.in-Err.ensures.err.same)

use Rattle.std.proofs.Common.{◌≤◌, sym, subst, length-set}
use Rattle.std.specs.Prelude.{None}
use Rattle.ja_node_table.specs.Seats.{known}
use Rattle.ja_bdd.proofs.Cached.{right_kept, early_set}
use Rattle.ja_bdd.proofs.worker.Worker.keep.Goals as goal

pub invariant_of-self : goal.invariant_of-self
invariant_of-self g c =
    let w = c.args.self.now in
    record {
      counted = subst (λ n. (1 ≤ n) × (n ≤ 1048576)) (sym (length-set w.cache.items c.place-place.result _)) w.counted;
      early = early_set w.cache.items c.place-place.result record { asked = c.args.asked; made = c.args.made } w.early c.place-place.ensures.early;
      right = right_kept None (known w.seat) w.cache.items c.place-place.result record { asked = c.args.asked; made = c.args.made } w.right c.requires;
    }

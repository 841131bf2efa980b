use Rattle.std.proofs.Common.{◌≤◌, sym, subst}
use Rattle.ja_node_table.specs.Seats.{known}
use Rattle.ja_bdd.proofs.Sound.{seat_sound}
use Rattle.ja_bdd.proofs.Renewing.{renewed, renewed_plain, early_left}
use Rattle.ja_bdd.proofs.worker.Worker.forget_shifts.Goals as goal

pub invariant_of-self : goal.invariant_of-self
invariant_of-self g c =
    let w = c.args.self.now in
    record { counted = subst (λ n. (1 ≤ n) × (n ≤ 1048576)) (sym c.drop_shifts.ensures.length) w.counted; early = early_left w.cache.items c.drop_shifts.new.cache.items c.drop_shifts.ensures.left; right = renewed_plain (known w.seat) (seat_sound w.seat) w.cache.items c.drop_shifts.new.cache.items w.right c.drop_shifts.ensures.left }

pub returns-clause-cache : goal.returns-clause-cache
returns-clause-cache g c m =
    let w = c.args.self.now in
    renewed m (known w.seat) (seat_sound w.seat) w.cache.items c.drop_shifts.new.cache.items w.right c.drop_shifts.ensures.left
